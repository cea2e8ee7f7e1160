-- `inlet::join_read` meets its contract: what it calls asks no more than what was read of the two sheets. Assumes nothing.
use mathlib.Core.Path.{sym, ◌∙◌}
use native.Mathlib.Omega.{arith}
use Rattle.words.proofs.Buffer.{writing-bytes}
use Rattle.sheet.specs.Write.{sheet_bytes}
use Rattle.sheet.proofs.Accepted.{sheet_unpackable}
use Rattle.sheet.proofs.Filled.{length_most}
use Rattle.inlet.proofs.Checks.{first_facts, second_facts, addable}
use Rattle.inlet.proofs.join_read.Goals as goal

-- no total of a sheet is above the maximum, so the joint one fits
pub overflow_add-a : goal.overflow_add-a
overflow_add-a c = omega (arith, (first_facts c.requires).sum.within, (second_facts c.requires).sum.within)

pub unpack-table-requires : goal.unpack-table-requires
unpack-table-requires c = (_, sheet_unpackable _ _ (first_facts c.requires))

pub add_counts-requires : goal.add_counts-requires
add_counts-requires c = (_, addable c.requires c.unpack-table.ensures (omega arith))

pub write_sheet-requires : goal.write_sheet-requires
write_sheet-requires c = (first_facts c.requires).n_high

-- the length that the writer gives fits
pub overflow_cast-result : goal.overflow_cast-result
overflow_cast-result c =
    let a = c.args.a in
    let table = c.add_counts.new.table in
    let z = writing-bytes (sheet_bytes a.n a.t table) c.args.out.now c.in_ok-size.size (sym c.in_ok-size.was ∙ c.write_sheet.ensures.answer) in
    omega (arith, z.0, length_most a.n a.t table (first_facts c.requires).n_high)
