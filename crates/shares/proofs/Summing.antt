-- Laws of a loop that adds up over the helpers of a node: k is the next helper, or the number of nodes. Assumes nothing.
use mathlib.Core.Path.{◌≡◌, sym, ◌∙◌}
use mathlib.Core.Logic.{◌≢◌, ◌⊎◌, inl, inr}
use mathlib.Core.Bool.{true, false}
use Prim.Native.Nat.{ℕ, ◌+◌, ◌-◌, ◌*◌, ◌≤◌, ◌<◌}
use native.Mathlib.Decide.{dec_lt}
use native.Mathlib.Omega.{arith}
use lib.Dec.{ltb}
use borrow.Author.Tests.{lt-ltb, le-ltb}
use Rattle.fold.specs.Sum.{only, sum}
use Rattle.fold.specs.First.{FirstFrom}
use Rattle.fold.proofs.Sums.{sum-le, sum-eq, sum_const}
use Rattle.fold.proofs.Tests.{either, only-is, only-not, only-max}
use Rattle.tree.specs.Family.{helps, over_helpers}
use Rattle.tree.proofs.Families.{helpers_none, helpers_next, helpers_more, family_sum}

-- the owner has this, and each helper its part
pub record Summed (nodes : ℕ) (h : ℕ → ℕ) (n own : ℕ) (part : ℕ → ℕ) (total k : ℕ) : Type 0 where
  pub k_le : k ≤ nodes
  pub helper : k < nodes → helps h n k ≡ true
  pub total_is : total ≡ own + over_helpers k h n part

module _ {nodes : ℕ} {h : ℕ → ℕ} {n own : ℕ} {part : ℕ → ℕ} where
  -- the owner alone
  pub summed_first : {total k : ℕ} → total ≡ own → FirstFrom nodes (helps h n) 0 k → Summed nodes h n own part total k
  summed_first e y =
      record { k_le = y.to_le; helper = y.passes; total_is = omega (arith, e, helpers_none h n part, helpers_next h n part y) }

  -- helper k too
  pub summed_next : {total k more to : ℕ} → Summed nodes h n own part total k → k < nodes → more ≡ part k
      → FirstFrom nodes (helps h n) (k + 1) to → Summed nodes h n own part (total + more) to
  summed_next {k = k} p l e y =
      record {
        k_le = y.to_le;
        helper = y.passes;
        total_is = omega (arith, p.total_is, e, helpers_more h n part k (p.helper l), helpers_next h n part y);
      }

  -- all helpers
  pub summed_end : {total k : ℕ} → Summed nodes h n own part total k → nodes ≤ k → total ≡ own + over_helpers nodes h n part
  summed_end {total} {k} p l =
      let e : k ≡ nodes = omega (arith, p.k_le) in
      rw e at p.total_is

  -- a sum of small parts is small
  pub summed_most : {total k : ℕ} (most : ℕ) → Summed nodes h n own part total k → ((j : ℕ) → part j ≤ most) → total ≤ k * most + own
  summed_most {total} {k} most p b =
      omega (
        arith,
        p.total_is,
        sum-le k (λ j. only (helps h n j) (part j)) (λ j. most) (λ j l. omega (arith, only-max (helps h n j) (part j), b j)),
        sum_const k most,
      )

-- the whole family, where other nodes have no part
pub summed_all : {nodes : ℕ} {h : ℕ → ℕ} {n : ℕ} {part : ℕ → ℕ} {total k : ℕ} → Summed nodes h n (part n) part total k → nodes ≤ k
    → n < nodes → ((j : ℕ) → j ≢ n → helps h n j ≡ false → part j ≡ 0) → total ≡ sum nodes part
summed_all {nodes} {h} {n} {part} p l b other = omega (arith, summed_end p l, family_sum h n part nodes b other)

-- ---- members in the order of their numbers: what those below k add up to

module _ (h : ℕ → ℕ) (n : ℕ) (f : ℕ → ℕ) (other : (j : ℕ) → j ≢ n → helps h n j ≡ false → f j ≡ 0) where
  members_below : (k : ℕ) → sum k f ≡ only (ltb n k) (f n) + over_helpers k h n f
  members_below k = elim (dec_lt n k) [
    | yes l ↦ omega (arith, family_sum h n f k l other, only-is (ltb n k) (f n) (lt-ltb n k l))
    | no d ↦
        omega (
          arith,
          sum-eq k f (λ j. only (helps h n j) (f j)) (λ j b. helper j (λ e. omega arith) (either (helps h n j))),
          only-not (ltb n k) (f n) (le-ltb n k (omega arith)),
        )
  ]
    where
      helper : (j : ℕ) → j ≢ n → (helps h n j ≡ true) ⊎ (helps h n j ≡ false) → f j ≡ only (helps h n j) (f j)
      helper j d (inl y) = sym (only-is (helps h n j) (f j) y)
      helper j d (inr y) = other j d y ∙ sym (only-not (helps h n j) (f j) y)

  -- what all of them leave, taken from the helpers first
  pub left_below : (left k : ℕ) {some result : ℕ} → some ≡ left - over_helpers k h n f → result ≡ some - only (ltb n k) (f n)
      → result ≡ left - sum k f
  left_below left k p q = omega (arith, members_below k)
