-- `plan::tree::shares_fine` meets its contract: the shares of the nodes passed are fine. Assumes nothing.
use mathlib.Core.Path.{◌≡◌}
use mathlib.Core.Bool.{true}
use Rattle.fold.specs.All.{all}
use Rattle.plan.specs.Tree.{share_fine}
use Rattle.arrays.specs.Arrays.{at}
use Rattle.plan.proofs.tree.shares_fine.Given as goal

abbrev pub invariant-loop-k : goal.invariant-loop-k
invariant-loop-k l = all l.k (share_fine l.limit (at l.helpands) (at l.shares)) ≡ true
