-- `sheet::write::count_cells` meets its contract: e is the number of cells passed that have a count. Assumes nothing.
use mathlib.Core.Path.{◌≡◌}
use Prim.Native.Nat.{◌≤◌}
use lib.ListN.{length}
use Rattle.fold.specs.Collect.{collect}
use Rattle.sheet.specs.Write.{filled}
use Rattle.sheet.proofs.write.count_cells.Given as goal

abbrev pub invariant-loop-c : goal.invariant-loop-c
invariant-loop-c l = (l.e ≤ l.c) × (l.e ≡ length (collect l.c (filled l.table)))
