-- `archive::read::read_counts` meets its contract: the length that the writer gives fits. Assumes nothing.
use mathlib.Core.Path.{sym, ◌∙◌}
use native.Mathlib.Omega.{arith}
use Rattle.words.proofs.Buffer.{writing-bytes}
use Rattle.sheet.specs.Write.{sheet_bytes}
use Rattle.sheet.proofs.Filled.{length_most}
use Rattle.archive.proofs.read.read_counts.Goals as goal

pub overflow_cast-result : goal.overflow_cast-result
overflow_cast-result c =
    let a = c.args in
    let table = c.unpack-table.result in
    let z = writing-bytes (sheet_bytes a.n a.t table) a.out.now c.in_ok-size.size (sym c.in_ok-size.was ∙ c.write_sheet.ensures.answer) in
    omega (arith, z.0, length_most a.n a.t table c.requires.n_high)
