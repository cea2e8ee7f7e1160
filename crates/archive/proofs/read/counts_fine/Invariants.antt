-- `archive::read::counts_fine` meets its contract: the cells passed that have a count name two nodes below n. Assumes nothing.
use mathlib.Core.Path.{◌≡◌}
use mathlib.Core.Bool.{true, ◌||◌}
use lib.Dec.{eqb}
use Rattle.fold.specs.All.{all}
use Rattle.arrays.specs.Arrays.{at}
use Rattle.sheet.specs.Sheet.{cell_fine}
use Rattle.archive.proofs.read.counts_fine.Given as goal

abbrev pub invariant-loop-c : goal.invariant-loop-c
invariant-loop-c l = all l.c (λ k. cell_fine l.n k || eqb (at l.fn.table k) 0) ≡ true
