-- `plan::tree::count_roots` meets its contract: count is the number of roots among the nodes passed. Assumes nothing.
use mathlib.Core.Path.{◌≡◌}
use Prim.Native.Nat.{◌≤◌}
use Rattle.plan.specs.Tree.{roots}
use Rattle.arrays.specs.Arrays.{at}
use Rattle.plan.proofs.tree.count_roots.Given as goal

abbrev pub invariant-loop-k : goal.invariant-loop-k
invariant-loop-k l = (l.count ≤ l.k) × (l.count ≡ roots l.k (at l.helpands))
