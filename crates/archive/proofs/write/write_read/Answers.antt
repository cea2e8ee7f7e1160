-- `archive::write::write_read` meets its contract: a sheet that was read can be unpacked. Assumes nothing.
use native.Mathlib.Omega.{arith}
use Rattle.sheet.proofs.Accepted.{reading_accepted, sheet_unpackable}
use Rattle.archive.proofs.write.write_read.Goals as goal

pub put_archive-requires : goal.put_archive-requires
put_archive-requires c = (sheet_unpackable _ _ (reading_accepted _ c.args.h c.requires), omega arith)
