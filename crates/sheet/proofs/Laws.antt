-- Laws of *read sheet*'s parts: a cell's nodes, and the running sum, one law for each way that a turn of its loop can go.
-- Assumes nothing.
use mathlib.Core.Path.{◌≡◌, refl, ap, ◌∙◌}
use mathlib.Core.List.{List, [], ◌∷◌}
use mathlib.Core.Bool.{Bool, true, false, cond}
use Prim.Native.Nat.{ℕ, zero, suc, ◌+◌, ◌*◌, ◌/◌, ◌%◌, ◌≤◌, ◌<◌}
use native.Mathlib.Omega.{arith}
use borrow.Author.Tests.{lt-ltb, le-ltb, ltb-true, ltb-false, eq-eqb, ne_eqb, eqb-false}
use lib.Dec.{eqb, ltb}
use lib.ListN.{length, get_or}
use Rattle.fold.specs.Sum.{total}
use Rattle.fold.proofs.Tests.{and_left, and_right, and_both}
use Rattle.limit.specs.Limit.{max_nodes, max_total, table_size}
use Rattle.sheet.specs.Sheet.{cell_fine, running_sum}
use Rattle.std.specs.Prelude.{None, Some}

-- ---- cells

pub cell-holder : (n c : ℕ) → cell_fine n c ≡ true → c / 64 < n
cell-holder n c e = ltb-true (c / 64) n (and_left (ltb (c / 64) n) (ltb (c % 64) n) e)

pub cell-subdomain : (n c : ℕ) → cell_fine n c ≡ true → c % 64 < n
cell-subdomain n c e = ltb-true (c % 64) n (and_right (ltb (c / 64) n) (ltb (c % 64) n) e)

pub cell_of : (n c : ℕ) → c / 64 < n → c % 64 < n → cell_fine n c ≡ true
cell_of n c h d = and_both (ltb (c / 64) n) (ltb (c % 64) n) (lt-ltb (c / 64) n h) (lt-ltb (c % 64) n d)

-- a cell is below 64 × N
pub cell_below : (n c : ℕ) → cell_fine n c ≡ true → c < 64 * n
cell_below n c e = omega (arith, cell-holder n c e)

-- so a cell behind the table names a node not below N
pub cell-beyond : (n c : ℕ) → n ≤ max_nodes → table_size ≤ c → cell_fine n c ≡ false
cell-beyond n c l h = rw (le-ltb (c / 64) n (omega arith))

-- ---- the running sum

module _ (sum c : ℕ) (cs : List ℕ) where
  pub running_more : (c ≡ 0 → ⊥) → sum + c ≤ max_total → running_sum sum (c ∷ cs) ≡ running_sum (sum + c) cs
  unfolding running_sum
  running_more h₁ h₂ = simp (ne_eqb _ _ h₁, le-ltb _ _ h₂)

  pub running_none : c ≡ 0 → running_sum sum (c ∷ cs) ≡ None
  unfolding running_sum
  running_none h = simp (eq-eqb _ _ h)

  pub running_over : (c ≡ 0 → ⊥) → max_total < sum + c → running_sum sum (c ∷ cs) ≡ None
  unfolding running_sum
  running_over h₁ h₂ = simp (ne_eqb _ _ h₁, lt-ltb _ _ h₂)

-- what a sum that is found says: it is the total, within the bound, and no count is 0
pub record Summed (sum : ℕ) (cs : List ℕ) (p : ℕ) : Type 0 where
  pub is : p ≡ sum + total cs
  pub within : p ≤ max_total
  pub positive : (i : ℕ) → i < length cs → 0 < get_or cs i 0

pub summed : (sum : ℕ) (cs : List ℕ) (p : ℕ) → sum ≤ max_total → running_sum sum cs ≡ Some p → Summed sum cs p
unfolding running_sum total
summed sum [] p h e =
    let q : sum ≡ p = cc in
    record { is = omega arith; within = omega arith; positive = λ i l. absurd (omega arith) }
summed sum (c ∷ cs) p h e = go (eqb c 0) (ltb max_total (sum + c)) refl refl (λ k. summed (sum + c) cs p k) e
  where
    go : (b d : Bool) → eqb c 0 ≡ b → ltb max_total (sum + c) ≡ d
        → (sum + c ≤ max_total → running_sum (sum + c) cs ≡ Some p → Summed (sum + c) cs p)
        → cond b None (cond d None (running_sum (sum + c) cs)) ≡ Some p → Summed sum (c ∷ cs) p
    go true d q w ih r = let z : ◌≡◌ {A = ℕ} 0 1 = cc in absurd (omega arith)
    go false true q w ih r = let z : ◌≡◌ {A = ℕ} 0 1 = cc in absurd (omega arith)
    go false false q w ih r =
        let s = ih (ltb-false max_total (sum + c) w) r in
        record { is = omega (arith, s.is); within = s.within; positive = at s }
      where
        at : Summed (sum + c) cs p → (i : ℕ) → i < length (c ∷ cs) → 0 < get_or (c ∷ cs) i 0
        at s zero l = omega (arith, eqb-false c 0 q)
        at s (suc i) l = s.positive i (omega arith)

-- and conversely
pub sum_of : (sum : ℕ) (cs : List ℕ) → sum + total cs ≤ max_total → ((i : ℕ) → i < length cs → 0 < get_or cs i 0)
    → running_sum sum cs ≡ Some (sum + total cs)
unfolding total
sum_of sum [] h p = unfold running_sum in ap Some (omega arith)
sum_of sum (c ∷ cs) h p =
    let z : c ≡ 0 → ⊥ = λ e. omega (arith, p 0 (omega arith)) in
    running_more sum c cs z (omega arith) ∙ sum_of (sum + c) cs (omega arith) (λ i l. p (suc i) (omega arith)) ∙ ap Some (omega arith)
