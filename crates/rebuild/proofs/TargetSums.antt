-- The targets: they differ by 1 at most, add up to p, and none is above p / nodes rounded up, so none is above the limit. Assumes nothing.
use mathlib.Core.Path.{◌≡◌}
use Prim.Native.Nat.{ℕ, ◌+◌, ◌-◌, ◌*◌, ◌/◌, ◌%◌, ◌≤◌, ◌<◌}
use native.Mathlib.Nat.{div-add-mod', mod-lt, le-div_iff_mul-le}
use native.Mathlib.Decide.{dec_lt}
use native.Mathlib.Omega.{arith}
use lib.Dec.{ltb}
use borrow.Author.Tests.{lt-ltb, le-ltb}
use Rattle.fold.specs.Sum.{only, sum}
use Rattle.fold.proofs.Tests.{only-is, only-not, only-max}
use Rattle.fold.proofs.Sums.{sum-add, sum_const, sum_below}
use Rattle.limit.specs.Limit.{max_tolerance, max_total, max_limit, limit_of}
use Rattle.limit.proofs.Laws.{limit-even, limit-max, limit-enough}
use Rattle.rebuild.specs.Target.{target_of}

-- ---- below the remainder, and from it on

pub target-low : (nodes p k : ℕ) → k < p % nodes → target_of nodes p k ≡ p / nodes + 1
unfolding target_of
target-low nodes p k h = omega (arith, only-is (ltb k (p % nodes)) 1 (lt-ltb k (p % nodes) h))

pub target-high : (nodes p k : ℕ) → p % nodes ≤ k → target_of nodes p k ≡ p / nodes
unfolding target_of
target-high nodes p k h = omega (arith, only-not (ltb k (p % nodes)) 1 (le-ltb k (p % nodes) h))

pub target-near : (nodes p j k : ℕ) → target_of nodes p j ≤ target_of nodes p k + 1
unfolding target_of
target-near nodes p j k = omega (arith, only-max (ltb j (p % nodes)) 1)

-- ---- theorem 1

-- THEOREM. The targets add up to the total.
pub target-sum : (nodes p : ℕ) → 1 ≤ nodes → sum nodes (target_of nodes p) ≡ p
unfolding target_of
target-sum nodes p h =
    omega (
      arith,
      sum-add nodes (λ k. p / nodes) (λ k. only (ltb k (p % nodes)) 1),
      sum_const nodes (p / nodes),
      sum_below nodes (p % nodes),
      mod-lt p h,
      div-add-mod' p nodes,
    )

-- THEOREM. No target is above the total over the nodes, rounded up.
pub target_up : (nodes p : ℕ) → 1 ≤ nodes → (k : ℕ) → target_of nodes p k ≤ (p + nodes - 1) / nodes
target_up nodes p h k = (le-div_iff_mul-le h).1 (elim (dec_lt k (p % nodes)) [
  | yes l ↦ rw (target-low nodes p k l) (omega (arith, div-add-mod' p nodes))
  | no d ↦ rw (target-high nodes p k (omega (arith, d))) (omega (arith, div-add-mod' p nodes))
])

-- so none is above the limit, which is the larger of that and another number
pub target-limit : (nodes p t : ℕ) → 1 ≤ nodes → (k : ℕ) → target_of nodes p k ≤ limit_of p nodes t
target-limit nodes p t h k = omega (arith, target_up nodes p h k, limit-even p nodes t)

pub record WithinTargets (nodes p t : ℕ) : Type 0 where
  pub room : p ≤ nodes * limit_of p nodes t
  pub sum_up : sum nodes (target_of nodes p) ≡ p
  pub below : (k : ℕ) → target_of nodes p k ≤ limit_of p nodes t
  pub written : limit_of p nodes t ≤ max_limit

-- THEOREM. All particles have room at the limit, on N nodes. The targets add up to the total, and none is above the limit. The limit is one
-- that a plan may carry.
pub targets-within-limit : (nodes p t : ℕ) → 1 ≤ nodes → p ≤ max_total → t ≤ max_tolerance → WithinTargets nodes p t
targets-within-limit nodes p t h hp ht = record {
  room = limit-enough p nodes t h;
  sum_up = target-sum nodes p h;
  below = target-limit nodes p t h;
  written = limit-max p nodes t hp h ht;
}
