-- `arrays::all_at_most` meets its contract: at the loop's head it is known of the nodes passed. Assumes nothing.
use mathlib.Core.Path.{◌≡◌}
use lib.Dec.{leb}
use Rattle.fold.specs.All.{all}
use Rattle.arrays.specs.Arrays.{at}
use Rattle.arrays.proofs.all_at_most.Given as goal

abbrev pub invariant-loop-k : goal.invariant-loop-k
invariant-loop-k l = l.fine ≡ all l.k (λ j. leb (at l.entries j) l.bound)
