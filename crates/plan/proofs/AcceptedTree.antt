-- An accepted plan of kind 1 or 2 has a tree of helpands, and a tree passes the checks of the helpands. Assumes nothing.
use mathlib.Core.Path.{◌≡◌, refl}
use mathlib.Core.Logic.{◌≢◌, inr}
use mathlib.Core.Bool.{true}
use mathlib.Core.List.{List}
use Prim.Native.Nat.{ℕ, ◌+◌, ◌*◌, ◌≤◌}
use lib.ListN.{length, get_or}
use Rattle.limit.specs.Limit.{max_nodes, max_limit}
use Rattle.words.specs.Words.{words}
use Rattle.plan.specs.Tree.{shares_fine, Tree}
use Rattle.plan.specs.Plan.{accepted, helpands_of, shares_of, read_plan}
use Rattle.plan.proofs.Accepted.{plan-accepted, accepted-read}
use Rattle.plan.proofs.Trees.{shape-tree, tree-below, tree_shape}
use Rattle.arrays.specs.Arrays.{at}

-- THEOREM: Where the head and the length of a plan of kind 1 or 2 are right, its helpands are a tree and its shares are right, it is
-- accepted.
pub tree-accepted : (s : List ℕ) (n kind limit r : ℕ)
    → n ≡ get_or (words s) 0 0 → kind ≡ get_or (words s) 1 0 → limit ≡ get_or (words s) 2 0
    → 1 ≤ n → n ≤ max_nodes → kind ≢ 0 → kind ≤ 2 → n ≢ 1 → limit ≤ max_limit → length s ≡ 4 * (3 + 2 * n)
    → Tree n (at (helpands_of s n)) r
    → shares_fine n limit (at (helpands_of s n)) (at (shares_of s n)) ≡ true
    → read_plan s ≡ accepted n kind limit
tree-accepted s n kind limit r n_is kind_is limit_is low high d two d₁ lim size t shares =
    accepted-read s (accepted n kind limit)
    (record {
      answer = refl;
      n_is = n_is;
      kind_is = kind_is;
      limit_is = limit_is;
      n_low = low;
      n_high = high;
      kind_high = two;
      alone = inr d₁;
      limit_high = lim;
      size = size;
      below = tree-below t;
      shape = tree_shape t kind d;
      shares = shares;
    })

-- THEOREM: The helpands of an accepted plan of kind 1 or 2 are a tree: there is a root that every chain of helpands reaches within N
-- steps.
pub accepted-tree : (s : List ℕ) → (read_plan s).refusal ≡ 0 → (read_plan s).kind ≢ 0
    → (r : ℕ) × Tree (read_plan s).n (at (helpands_of s (read_plan s).n)) r
accepted-tree s q d =
    let k = plan-accepted s q in
    shape-tree (read_plan s).n (read_plan s).kind (at (helpands_of s (read_plan s).n)) d k.below k.shape
