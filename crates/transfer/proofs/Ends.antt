-- Laws of `moved`, the sum of the counts of the moves whose end is one cell: move by move, over two lists, where no move ends at the
-- cell, and summed over cells. Assumes nothing.
use mathlib.Core.Path.{◌≡◌, refl, ◌∙◌}
use mathlib.Core.Logic.{◌≢◌}
use mathlib.Core.List.{List, [], ◌∷◌, ◌++◌}
use Prim.Native.Nat.{ℕ, zero, suc, ◌+◌, ◌<◌}
use native.Mathlib.Omega.{arith}
use borrow.Author.Tests.{eq-eqb, ne_eqb}
use lib.Dec.{eqb}
use lib.ListN.{length, get_or, length-append}
use Rattle.fold.specs.Sum.{only, sum}
use Rattle.fold.specs.Collect.{collect}
use Rattle.fold.proofs.Tests.{only-is, only-not}
use Rattle.transfer.specs.Apply.{moved}

module _ (end : ℕ → ℕ) where
  pub moved_none : (counts : List ℕ) (c : ℕ) → moved end [] counts c ≡ 0
  unfolding moved
  moved_none counts c = refl

  pub moved-one : (route count : ℕ) (routes counts : List ℕ) (c : ℕ)
      → moved end (route ∷ routes) (count ∷ counts) c ≡ only (eqb (end route) c) count + moved end routes counts c
  unfolding moved
  moved-one route count routes counts c = refl

  pub moved_here : (route count : ℕ) (routes counts : List ℕ) (c : ℕ) → end route ≡ c
      → moved end (route ∷ routes) (count ∷ counts) c ≡ count + moved end routes counts c
  moved_here route count routes counts c e =
      omega (arith, moved-one route count routes counts c, only-is (eqb (end route) c) count (eq-eqb (end route) c e))

  pub moved_other : (route count : ℕ) (routes counts : List ℕ) (c : ℕ) → end route ≢ c
      → moved end (route ∷ routes) (count ∷ counts) c ≡ moved end routes counts c
  moved_other route count routes counts c d =
      omega (arith, moved-one route count routes counts c, only-not (eqb (end route) c) count (ne_eqb (end route) c d))

  -- no move ends at the cell
  pub moved_absent : (routes counts : List ℕ) (c : ℕ) → ((i : ℕ) → i < length routes → end (get_or routes i 0) ≢ c)
      → moved end routes counts c ≡ 0
  unfolding moved
  moved_absent [] counts c h = refl
  moved_absent (route ∷ routes) [] c h = refl
  moved_absent (route ∷ routes) (count ∷ counts) c h =
      moved_other route count routes counts c (h 0 (omega arith)) ∙ moved_absent routes counts c (λ i l. h (suc i) (omega arith))

  pub moved-append : (xs ys ks ls : List ℕ) (c : ℕ) → length xs ≡ length ks
      → moved end (xs ++ ys) (ks ++ ls) c ≡ moved end xs ks c + moved end ys ls c
  unfolding moved
  moved-append [] ys [] ls c e = omega arith
  moved-append [] ys (k ∷ ks) ls c e = absurd (omega arith)
  moved-append (x ∷ xs) ys [] ls c e = absurd (omega arith)
  moved-append (x ∷ xs) ys (k ∷ ks) ls c e = omega (arith, moved-append xs ys ks ls c (omega arith))

  -- many lists, one after the other
  pub moved-collect : (n : ℕ) (f g : ℕ → List ℕ) (c : ℕ) → ((j : ℕ) → length (f j) ≡ length (g j))
      → (length (collect n f) ≡ length (collect n g)) × (moved end (collect n f) (collect n g) c ≡ sum n (λ j. moved end (f j) (g j) c))
  unfolding collect sum
  moved-collect zero f g c e = (refl, moved_none [] c)
  moved-collect (suc n) f g c e =
      let ih = moved-collect n f g c e in (
        simp length-append (omega (arith, ih.0, e n)),
        omega (arith, moved-append (collect n f) (f n) (collect n g) (g n) c ih.0, ih.1),
      )
