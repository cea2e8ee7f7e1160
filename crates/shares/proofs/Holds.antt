-- Holds: laws of `affords` and `reserve`, and why a family that can afford its helpers' holds has space for its particles with them.
-- Assumes nothing.
use mathlib.Core.Path.{◌≡◌, sym, ap, ◌∙◌}
use mathlib.Core.Logic.{◌⊎◌, inl, inr, ◌↔◌}
use mathlib.Core.Bool.{Bool, true, false}
use Prim.Native.Nat.{ℕ, zero, suc, ◌+◌, ◌-◌, ◌*◌, ◌≤◌, ◌<◌}
use native.Mathlib.Omega.{arith}
use lib.Dec.{leb}
use borrow.Author.Tests.{le-leb, leb-true}
use Rattle.fold.specs.Sum.{only, sum}
use Rattle.fold.proofs.Sums.{sum-eq}
use Rattle.fold.proofs.Tests.{either}
use Rattle.tree.specs.Family.{helps, over_helpers}
use Rattle.tree.proofs.Families.{helpers_eq, helpers_add}
use Rattle.shares.specs.Hold.{hold, family_size, affords, reserve}
use Rattle.shares.specs.Shares.{space}
use Rattle.shares.proofs.Spaces.{space-sum}

-- ---- so many of the same number

only_times : (b : Bool) (c : ℕ) → only b c ≡ c * only b 1
only_times true c = omega arith
only_times false c = omega arith

sum_times : (n c : ℕ) (f : ℕ → ℕ) → sum n (λ k. c * f k) ≡ c * sum n f
unfolding sum
sum_times zero c f = omega arith
sum_times (suc n) c f = omega (arith, sum_times n c f)

-- ---- which of the two a family uses

-- only the holds of the nodes matter
pub affords-same : (nodes : ℕ) (h : ℕ → ℕ) (limit : ℕ) (holds holds' total : ℕ → ℕ) (r n : ℕ)
    → ((k : ℕ) → k < nodes → holds k ≡ holds' k) → affords nodes h limit holds total r n ≡ affords nodes h limit holds' total r n
unfolding affords
affords-same nodes h limit holds holds' total r n e =
    ap (λ (x : ℕ). leb (total n + r + x) (limit * family_size nodes h n)) (helpers_eq nodes h n holds holds' (λ k l y. e k l))

module _ (nodes : ℕ) (h : ℕ → ℕ) (limit : ℕ) (least total : ℕ → ℕ) (held : ℕ → ℕ → ℕ) (r n : ℕ) where
  abbrev holds : ℕ → ℕ
  holds = hold limit least held

  abbrev afforded : Bool
  afforded = affords nodes h limit (hold limit least held) total r n

  abbrev reserves : ℕ → ℕ
  reserves = reserve nodes h limit least total held r n

  pub reserve-hold : afforded ≡ true → (k : ℕ) → reserves k ≡ holds k
  unfolding reserve
  reserve-hold e k = rw e

  pub reserve-least : afforded ≡ false → (k : ℕ) → reserves k ≡ least k
  unfolding reserve
  reserve-least e k = rw e

  -- "hold ≥ least": no helper is given more than its least leaves
  pub reserve_more : (k : ℕ) → least k ≤ reserves k
  reserve_more k = by (either afforded)
    where
      by : (afforded ≡ true) ⊎ (afforded ≡ false) → least k ≤ reserves k
      by (inl e) = omega (arith, reserve-hold e k)
      by (inr e) = omega (arith, reserve-least e k)

  -- ---- with these leasts and this share

  module _ (l : n < nodes) (b : (k : ℕ) → k < nodes → least k ≤ limit) (s : r ≤ limit) where
    -- what the holds leave, and the holds, are the limit for each helper
    limits_sum : over_helpers nodes h n (λ k. limit - holds k) + over_helpers nodes h n holds ≡ limit * over_helpers nodes h n (λ k. 1)
    limits_sum =
        sym (helpers_add nodes h n (λ k. limit - holds k) holds)
        ∙ sum-eq nodes (λ k. only (helps h n k) (limit - holds k + holds k)) (λ k. limit * only (helps h n k) 1) each
        ∙ sum_times nodes limit (λ k. only (helps h n k) 1)
      where
        each : (k : ℕ) → k < nodes → only (helps h n k) (limit - holds k + holds k) ≡ limit * only (helps h n k) 1
        each k c = ap (only (helps h n k)) (omega (arith, b k c)) ∙ only_times (helps h n k) limit

    -- THEOREM. The spaces with hold suffice for the owner's particles exactly where the family can afford the holds.
    pub hold-suffices : (afforded ≡ true) ↔ (total n ≤ sum nodes (space h limit holds r n))
    unfolding affords
    hold-suffices = (
      λ e. omega (arith, leb-true load (limit * family_size nodes h n) e, limits_sum, space-sum h limit holds r n nodes l),
      λ e. le-leb load (limit * family_size nodes h n) (omega (arith, limits_sum, space-sum h limit holds r n nodes l)),
    )
      where
        load : ℕ
        load = total n + r + over_helpers nodes h n holds
