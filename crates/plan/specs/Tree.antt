-- The helpands of a plan: the shape that *read plan* asks for, and what a tree is.
use Rattle.std.specs.Prelude.{◌≡◌, ℕ, zero, suc, ◌<◌, Bool, cond, ◌||◌, ◌&&◌, not, ltb, leb, eqb}
use Rattle.fold.specs.Sum.{only, sum}
use Rattle.fold.specs.All.{all}

-- ---- 16: "a helpand not below N"

abbrev pub helpands_below : ℕ → (ℕ → ℕ) → Bool
helpands_below n h = all n (λ k. ltb (h k) n)

-- ---- 17: "the wrong shape", and "Shape: kind 0 has only roots; kinds 1 and 2 have one root. The first node whose chain of helpands
-- fails to reach the root within N steps ends the search with 17."

-- "A root's helpand is its own number"
abbrev pub is_root : (ℕ → ℕ) → ℕ → Bool
is_root h k = eqb (h k) k

abbrev pub roots : ℕ → (ℕ → ℕ) → ℕ
roots n h = sum n (λ k. only (is_root h k) 1)

-- the chain of helpands from k reaches a root within so many steps
unfoldable pub reaches : (ℕ → ℕ) → ℕ → ℕ → Bool
reaches h zero k = is_root h k
reaches h (suc steps) k =
    let next = reaches h steps (h k) in
    is_root h k || next

abbrev pub shape_fine : ℕ → ℕ → (ℕ → ℕ) → Bool
shape_fine n kind h = cond (eqb kind 0) (all n (is_root h)) (eqb (roots n h) 1 && all n (reaches h n))

-- ---- 18: "a share above the limit or not 0 at a root"

abbrev pub share_fine : ℕ → (ℕ → ℕ) → (ℕ → ℕ) → ℕ → Bool
share_fine limit h share k = leb (share k) limit && (not (is_root h k) || eqb (share k) 0)

abbrev pub shares_fine : ℕ → ℕ → (ℕ → ℕ) → (ℕ → ℕ) → Bool
shares_fine n limit h share = all n (share_fine limit h share)

-- ---- a tree of helpands

-- so many steps along the helpands
unfoldable pub walk : (ℕ → ℕ) → ℕ → ℕ → ℕ
walk h zero k = k
walk h (suc steps) k = walk h steps (h k)

-- the helpands h of n nodes are a tree with root r: each helpand is a node, and N steps along the helpands lead from any node to r
pub record Tree (n : ℕ) (h : ℕ → ℕ) (r : ℕ) : Type 0 where
  pub root : r < n
  pub own : h r ≡ r
  pub inside : (k : ℕ) → k < n → h k < n
  pub reach : (k : ℕ) → k < n → walk h n k ≡ r
