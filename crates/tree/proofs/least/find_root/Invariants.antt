-- `tree::least::find_root` meets its contract: no node passed is a root, so each tree's root is still ahead. Assumes nothing.
use Prim.Native.Nat.{ℕ, ◌≤◌, ◌<◌, ◌-◌}
use Rattle.plan.specs.Tree.{Tree}
use Rattle.arrays.specs.Arrays.{at}
use Rattle.tree.proofs.least.find_root.Given as goal

abbrev pub invariant-loop-node : goal.invariant-loop-node
invariant-loop-node l = (l.node < l.nodes) × ((r : ℕ) → Tree l.nodes (at l.helpands) r → l.node ≤ r)

abbrev pub decreases-loop-node : goal.decreases-loop-node
decreases-loop-node l = l.nodes - l.node
