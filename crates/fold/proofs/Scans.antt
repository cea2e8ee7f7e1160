-- Laws of `best`, and of the smallest, the largest and the first. Assumes nothing.
use mathlib.Core.Path.{◌≡◌, refl, sym, ap, ◌∙◌}
use mathlib.Core.Logic.{◌⊎◌, inl, inr}
use mathlib.Core.Bool.{Bool, true, false, cond, true≢false}
use Prim.Native.Nat.{ℕ, zero, suc, ◌+◌, ◌≤◌, ◌<◌}
use native.Mathlib.Decide.{ℕ_discrete}
use native.Mathlib.Numerals.{add-one}
use native.Mathlib.Omega.{arith}
use borrow.Author.Tests.{ltb-true, ltb-false}
use Rattle.fold.specs.Best.{against, best, smaller, larger}
use Rattle.fold.proofs.Tests.{either}
use Rattle.std.specs.Prelude.{None, Option, Some}

-- ---- a loop that looks at one number more

module _ (ok : ℕ → Bool) (beats : ℕ → ℕ → Bool) (n : ℕ) where
  pub best_skips : ok n ≡ false → best ok beats (n + 1) ≡ best ok beats n
  unfolding best
  best_skips o = rw (add-one, o)

  pub best_begins : ok n ≡ true → best ok beats n ≡ None → best ok beats (n + 1) ≡ Some n
  unfolding best
  best_begins o e = rw (add-one, o, e)

  pub best_takes : (b : ℕ) → ok n ≡ true → best ok beats n ≡ Some b → beats n b ≡ true → best ok beats (n + 1) ≡ Some n
  unfolding best
  best_takes b o e t = rw (add-one, o, e, t)

  pub best-stays : (b : ℕ) → ok n ≡ true → best ok beats n ≡ Some b → beats n b ≡ false → best ok beats (n + 1) ≡ Some b
  unfolding best
  best-stays b o e t = rw (add-one, o, e, t)

-- ---- what is found

-- `Best P Q n r`: where r is `Some b`, b is below n and has P; where r is `None`, each number below n has Q
Best : (ℕ → Type 0) → (ℕ → Type 0) → ℕ → Option ℕ → Type 0
Best P Q n (Some b) = (b < n) × P b
Best P Q n None = (k : ℕ) → k < n → Q k

module _ (ok : ℕ → Bool) (beats : ℕ → ℕ → Bool) where
  here : (n : ℕ) → Best (λ b. ok b ≡ true) (λ k. ok k ≡ false) n (best ok beats n)
  unfolding Best best
  here zero = λ k h. absurd (omega arith)
  here (suc n) = step (ok n) refl (best ok beats n) (here n)
    where
      take : (b : ℕ) (t : Bool) → ok n ≡ true → (b < n) × (ok b ≡ true)
          → Best (λ b. ok b ≡ true) (λ k. ok k ≡ false) (suc n) (cond t (Some n) (Some b))
      take b true o w = (omega arith, o)
      take b false o w = (omega arith, w.1)

      step : (t : Bool) → ok n ≡ t → (r : Option ℕ) → Best (λ b. ok b ≡ true) (λ k. ok k ≡ false) n r
          → Best (λ b. ok b ≡ true) (λ k. ok k ≡ false) (suc n) (cond t (against beats n r) r)
      step true o None w = (omega arith, o)
      step true o (Some b) w = take b (beats n b) o w
      step false o None w = λ k h. elim (ℕ_discrete k n) [ yes e ↦ ap ok e ∙ o | no d ↦ w k (omega arith) ]
      step false o (Some b) w = (omega arith, w.1)

  pub best-found : (n b : ℕ) → best ok beats n ≡ Some b → (b < n) × (ok b ≡ true)
  unfolding Best
  best-found n b e = rw e at (here n)

  pub best-nothing : (n : ℕ) → best ok beats n ≡ None → (k : ℕ) → k < n → ok k ≡ false
  unfolding Best
  best-nothing n e = rw e at (here n)

  -- where a number passes, one is found
  pub best-some : (n k : ℕ) → k < n → ok k ≡ true → (b : ℕ) × (best ok beats n ≡ Some b)
  best-some n k h o = found (best ok beats n) refl
    where
      found : (r : Option ℕ) → best ok beats n ≡ r → (b : ℕ) × (best ok beats n ≡ Some b)
      found (Some b) e = (b, e)
      found None e = absurd (true≢false (sym o ∙ best-nothing n e k h))

-- what is found is beaten by none: `beats` is the strict part of an order by f, or of its reverse
module _ (ok : ℕ → Bool) (beats : ℕ → ℕ → Bool) (R : ℕ → ℕ → Type 0)
    (itself : (b : ℕ) → R b b)
    (through : (n b k : ℕ) → beats n b ≡ true → R b k → R n k)
    (else : (n b : ℕ) → b < n → beats n b ≡ false → R b n) where
  ahead : (n b : ℕ) → best ok beats n ≡ Some b → (k : ℕ) → k < n → ok k ≡ true → R b k
  ahead zero b e k h o = absurd (omega arith)
  ahead (suc n) b e k h o = step (either (ok n)) (best ok beats n) refl (λ c q. ahead n c q k)
    where
      new : best ok beats (suc n) ≡ Some n → n ≡ b
      new q = let w : Some n ≡ Some b = sym q ∙ e in cc

      one_more : best ok beats (n + 1) ≡ best ok beats (suc n)
      one_more = ap (best ok beats) (add-one n)

      step : (ok n ≡ true) ⊎ (ok n ≡ false) → (r : Option ℕ) → best ok beats n ≡ r
          → ((c : ℕ) → best ok beats n ≡ Some c → k < n → ok k ≡ true → R c k) → R b k
      step (inr f) r q ih =
          ih b (sym (best_skips ok beats n f) ∙ one_more ∙ e)
          (elim (ℕ_discrete k n) [ yes z ↦ absurd (true≢false (sym o ∙ ap ok z ∙ f)) | no d ↦ omega arith ]) o
      step (inl t) None q ih =
          let z = new (sym one_more ∙ best_begins ok beats n t q) in
          elim (ℕ_discrete k n) [
            | yes y ↦ rw (y, ← z) (itself n)
            | no d ↦ absurd (true≢false (sym o ∙ best-nothing ok beats n q k (omega arith)))
          ]
      step (inl t) (Some c) q ih = wins (either (beats n c))
        where
          wins : (beats n c ≡ true) ⊎ (beats n c ≡ false) → R b k
          wins (inl w) =
              let z = new (sym one_more ∙ best_takes ok beats n c t q w) in
              elim (ℕ_discrete k n) [
                | yes y ↦ rw (y, ← z) (itself n)
                | no d ↦ rw (← z) (through n c k w (ih c q (omega arith) o))
              ]
          wins (inr w) =
              let y : Some c ≡ Some b = sym (sym one_more ∙ best-stays ok beats n c t q w) ∙ e in
              let z : c ≡ b = cc in
              elim (ℕ_discrete k n) [
                | yes y ↦ rw (y, ← z) (else n c (best-found ok beats n c q).0 w)
                | no d ↦ rw (← z) (ih c q (omega arith) o)
              ]

pub smallest-le : (ok : ℕ → Bool) (f : ℕ → ℕ) (n b : ℕ) → best ok (smaller f) n ≡ Some b → (k : ℕ) → k < n → ok k ≡ true → f b ≤ f k
smallest-le ok f =
    ahead ok (smaller f) (λ b k. f b ≤ f k)
    (λ b. omega arith)
    (λ n b k w r. omega (arith, ltb-true (f n) (f b) w))
    (λ n b l w. ltb-false (f n) (f b) w)

-- and the lowest of those that are as small
pub smallest-lt : (ok : ℕ → Bool) (f : ℕ → ℕ) (n b : ℕ) → best ok (smaller f) n ≡ Some b
    → (k : ℕ) → k < n → ok k ≡ true → k < b → f b < f k
smallest-lt ok f n b e k l o =
    (ahead ok (smaller f) (λ b k. (f b ≤ f k) × (k < b → f b < f k))
    (λ b. (omega arith, λ h. absurd (omega arith)))
    (λ n b k w r. (omega (arith, ltb-true (f n) (f b) w, r.0), λ h. omega (arith, ltb-true (f n) (f b) w, r.0)))
    (λ n b l w. (ltb-false (f n) (f b) w, λ h. absurd (omega arith)))
    n b e k l o).1

pub largest-le : (ok : ℕ → Bool) (f : ℕ → ℕ) (n b : ℕ) → best ok (larger f) n ≡ Some b → (k : ℕ) → k < n → ok k ≡ true → f k ≤ f b
largest-le ok f =
    ahead ok (larger f) (λ b k. f k ≤ f b)
    (λ b. omega arith)
    (λ n b k w r. omega (arith, ltb-true (f b) (f n) w))
    (λ n b l w. ltb-false (f b) (f n) w)
