-- `decide::own_numbers` meets its contract: at the loop's head the array holds the numbers of the nodes passed. Assumes nothing.
use mathlib.Core.Path.{◌≡◌}
use Rattle.arrays.specs.Arrays.{tabulate}
use Rattle.decide.proofs.own_numbers.Given as goal

abbrev pub invariant-loop-k : goal.invariant-loop-k
invariant-loop-k l = l.out ≡ tabulate l.k (λ j. j)
