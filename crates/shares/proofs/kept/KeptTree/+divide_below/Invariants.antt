-- `KeptTree::divide_below` meets its contract: k is a helper of n or the end of the nodes, all helpers of n have their shares, and so have
-- the nodes below those helpers that are passed. The depth falls from call to call. Assumes nothing.
use Rattle.std.proofs.Common.{◌≡◌, ℕ, ◌-◌, ◌≤◌, ◌<◌, true, List}
use Rattle.tree.specs.Family.{helps}
use Rattle.tree.proofs.Passing.{HelpersPassed}
use Rattle.shares.specs.Inner.{nodes_of, helpand_of, share_in}
use Rattle.shares.proofs.kept.KeptTree.+divide_below.Given as goal

abbrev pub decreases-divide_below : goal.decreases-divide_below
decreases-divide_below l = l.depth

-- k is the next helper of n, or the number of nodes
pub record DividedSoFar (nodes : ℕ) (h share : ℕ → ℕ) (n : ℕ) (noted out : List ℕ) (k : ℕ) : Type 0 where
  pub k_le : k ≤ nodes
  pub helper : k < nodes → helps h n k ≡ true
  pub passed : HelpersPassed nodes h share n noted k out

abbrev pub invariant-loop-k : goal.invariant-loop-k
invariant-loop-k l = DividedSoFar (nodes_of l.self) (helpand_of l.self) (share_in l.self) l.n l.initial.shares l.shares l.k

abbrev pub decreases-loop-k : goal.decreases-loop-k
decreases-loop-k l = nodes_of l.self - l.k
