-- `sheet::table::unpack` meets its contract: at the loop's head the whole table is the present one with the entries that are left
-- stored. Assumes nothing.
use mathlib.Core.Path.{◌≡◌}
use lib.ListN.{drop}
use Rattle.sheet.specs.Sheet.{cells_of, counts_of}
use Rattle.sheet.specs.Table.{table_of}
use Rattle.sheet.proofs.Tables.{stored}
use Rattle.sheet.proofs.table.unpack.Given as goal

abbrev pub invariant-loop-i : goal.invariant-loop-i
invariant-loop-i l =
    table_of l.s l.e ≡ stored l.table (drop l.i (cells_of l.s l.e)) (drop l.i (counts_of l.s l.e))
