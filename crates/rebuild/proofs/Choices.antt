-- Laws of the choices of a turn: what a group's test says, whom l helps, that the first node found is the lowest, and the end. Assumes
-- nothing.
use mathlib.Core.Path.{◌≡◌, refl, sym, ap, ◌∙◌}
use mathlib.Core.Logic.{◌≢◌, ◌⊎◌, inl, inr}
use mathlib.Core.List.{List}
use mathlib.Core.Bool.{Bool, true, false, not, ◌&&◌, and-false}
use Prim.Native.Nat.{ℕ, zero, suc, ◌+◌, ◌≤◌, ◌<◌}
use native.Mathlib.Decide.{ℕ_discrete}
use native.Mathlib.Numerals.{add-one}
use native.Mathlib.Omega.{arith}
use lib.Dec.{ltb, leb}
use borrow.Author.Tests.{eq-eqb, ne_eqb, ltb-true, lt-ltb, leb-true, le-leb, lt-leb, not-true}
use Rattle.fold.specs.Best.{best, never, smaller}
use Rattle.fold.proofs.Tests.{either, and_left, and_right, and_both}
use Rattle.fold.proofs.Scans.{best_skips, best_begins, best-stays, best-found, best-nothing}
use Rattle.arrays.specs.Arrays.{at, tabulate}
use Rattle.rebuild.specs.declared.Balance.{Balance}
use Rattle.rebuild.specs.Rebuild.{group_a, group_b, in_a, in_b, is, smallest_in_a, largest_in_b, chosen, lowest_in_b, new_helpand, new_share, finish_of}
use Rattle.std.specs.Option.{IfSome}
use Rattle.std.specs.Prelude.{None, Option, Some}

-- ---- the groups

pub in_a-is : (load target : ℕ) (finished : Bool) → group_a load target finished ≡ true → (finished ≡ false) × (load < target)
in_a-is load target f e = (not-true f (and_left (not f) (ltb load target) e), ltb-true load target (and_right (not f) (ltb load target) e))

pub in_b_is : (load target : ℕ) (finished : Bool) → group_b load target finished ≡ true → (finished ≡ false) × (target ≤ load)
in_b_is load target f e = (not-true f (and_left (not f) (leb target load) e), leb-true target load (and_right (not f) (leb target load) e))

pub in_a_of : (load target : ℕ) (finished : Bool) → finished ≡ false → load < target → group_a load target finished ≡ true
in_a_of load target f e h = and_both (not f) (ltb load target) (ap not e) (lt-ltb load target h)

pub in_b_of : (load target : ℕ) (finished : Bool) → finished ≡ false → target ≤ load → group_b load target finished ≡ true
in_b_of load target f e h = and_both (not f) (leb target load) (ap not e) (le-leb target load h)

pub in_b_done : (load target : ℕ) (finished : Bool) → finished ≡ true → group_b load target finished ≡ false
in_b_done load target f e = ap (λ (b : Bool). not b && leb target load) e

-- the node found in A is under its target
pub smallest_under : (nodes : ℕ) (loads targets : List ℕ) (finished : List Bool) (o : Option ℕ)
    → o ≡ smallest_in_a nodes loads targets finished → IfSome o (λ l. (l < nodes) × (at loads l < at targets l))
smallest_under nodes loads targets finished None e = tt
smallest_under nodes loads targets finished (Some l) e =
    let f = best-found (in_a loads targets finished) (smaller (at loads)) nodes l (sym e) in
    (f.0, (in_a-is (at loads l) (at targets l) (is finished l) f.1).1)

-- ---- whom l helps

module _ (nodes : ℕ) (loads targets : List ℕ) (finished : List Bool) (l need h : ℕ) where
  pub chosen-old : h ≢ l → in_b loads targets finished h ≡ true → need ≤ at loads h → chosen nodes loads targets finished l need h ≡ Some h
  chosen-old d b e = rw (ne_eqb h l d, b, le-leb need (at loads h) e)

  pub chosen-root : h ≡ l → chosen nodes loads targets finished l need h ≡ largest_in_b nodes loads targets finished
  chosen-root e = rw (eq-eqb h l e)

  pub chosen-out : in_b loads targets finished h ≡ false
      → chosen nodes loads targets finished l need h ≡ largest_in_b nodes loads targets finished
  chosen-out b = rw (b, and-false)

  pub chosen-lacks : at loads h < need → chosen nodes loads targets finished l need h ≡ largest_in_b nodes loads targets finished
  chosen-lacks e = rw (lt-leb need (at loads h) e, and-false, and-false)

-- ---- the first

module _ (ok : ℕ → Bool) where
  -- the first that passes, where none below it does
  pub first-is : (n k : ℕ) → k < n → best ok never k ≡ None → ok k ≡ true → best ok never n ≡ Some k
  first-is zero k h e o = absurd (omega arith)
  first-is (suc n) k h e o = elim (ℕ_discrete k n) [
    | yes q ↦ ap (best ok never) (sym (add-one n)) ∙ ap (λ (j : ℕ). best ok never (j + 1)) (sym q) ∙ best_begins ok never k o e
    | no d ↦ ap (best ok never) (sym (add-one n)) ∙ more (either (ok n)) (first-is n k (omega arith) e o)
  ]
    where
      more : (ok n ≡ true) ⊎ (ok n ≡ false) → best ok never n ≡ Some k → best ok never (n + 1) ≡ Some k
      more (inl t) r = best-stays ok never n k t r refl
      more (inr f) r = best_skips ok never n f ∙ r

  -- it is the lowest
  pub first-lowest : (n b : ℕ) → best ok never n ≡ Some b → (k : ℕ) → k < b → ok k ≡ false
  first-lowest zero b e k h = absurd (omega (arith, (best-found ok never 0 b e).0))
  first-lowest (suc n) b e k h = more (either (ok n)) (best ok never n) refl (λ q. first-lowest n b q k h)
    where
      one : best ok never (n + 1) ≡ Some b
      one = ap (best ok never) (add-one n) ∙ e

      more : (ok n ≡ true) ⊎ (ok n ≡ false) → (r : Option ℕ) → best ok never n ≡ r → (best ok never n ≡ Some b → ok k ≡ false) → ok k ≡ false
      more (inr f) r q ih = ih (sym (best_skips ok never n f) ∙ one)
      more (inl t) None q ih =
          let w : Some n ≡ Some b = sym (best_begins ok never n t q) ∙ one in
          let z : n ≡ b = cc in
          best-nothing ok never n q k (omega arith)
      more (inl t) (Some c) q ih = ih (q ∙ sym (best-stays ok never n c t q refl) ∙ one)

-- ---- the end

module _ (nodes : ℕ) (s : Balance) where
  pub finish-none : lowest_in_b nodes s.loads s.targets s.finished ≡ None
      → finish_of nodes s ≡ record { helpands = s.helpands; shares = s.shares }
  unfolding finish_of
  finish-none e = rw (e, finish_of)

  pub finish-at : (root : ℕ) → lowest_in_b nodes s.loads s.targets s.finished ≡ Some root
      → finish_of nodes s ≡ record { helpands = tabulate nodes (new_helpand s root); shares = tabulate nodes (new_share s) }
  unfolding finish_of
  finish-at root e = rw (e, finish_of)

module _ (s : Balance) (k : ℕ) where
  pub helpand_in : (root : ℕ) → in_b s.loads s.targets s.finished k ≡ true → new_helpand s root k ≡ root
  helpand_in root e = rw e

  pub helpand-out : (root : ℕ) → in_b s.loads s.targets s.finished k ≡ false → new_helpand s root k ≡ at s.helpands k
  helpand-out root e = rw e

  pub share_in : in_b s.loads s.targets s.finished k ≡ true → new_share s k ≡ 0
  share_in e = rw e

  pub share-out : in_b s.loads s.targets s.finished k ≡ false → new_share s k ≡ at s.shares k
  share-out e = rw e
