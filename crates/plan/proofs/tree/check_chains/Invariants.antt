-- `plan::tree::check_chains` meets its contract. Outer loop: the chains of the nodes passed reach a root. Inner loop: the node's
-- chain reaches a root if what is left of it does, in the steps that are left. Assumes nothing.
use mathlib.Core.Path.{◌≡◌}
use mathlib.Core.Bool.{true}
use Prim.Native.Nat.{◌≤◌, ◌<◌}
use Rattle.fold.specs.All.{all}
use Rattle.plan.specs.Tree.{reaches}
use Rattle.arrays.specs.Arrays.{at}
use Rattle.plan.proofs.tree.check_chains.Given as goal
use Rattle.std.specs.Prelude.{Ok}

abbrev pub invariant-steps : goal.invariant-steps
invariant-steps l =
    (l.here < l.nodes) × (l.left ≤ l.nodes) × (reaches (at l.helpands) l.nodes l.node ≡ reaches (at l.helpands) l.left l.here) × (l.found ≡ Ok tt)

abbrev pub decreases-steps : goal.decreases-steps
decreases-steps l = l.left

abbrev pub invariant-nodes : goal.invariant-nodes
invariant-nodes l = (all l.node (reaches (at l.helpands) l.nodes) ≡ true) × (l.found ≡ Ok tt)
