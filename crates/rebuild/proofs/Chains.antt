-- The best of a list of the numbers below n, found by one comparison for each, is `best`. Assumes nothing.
use mathlib.Core.Path.{◌≡◌, refl, sym, ap, ◌∙◌}
use mathlib.Core.List.{List, [], ◌∷◌, ◌++◌, map-id, append-nil}
use mathlib.Core.Bool.{Bool, true, false, cond}
use Prim.Native.Nat.{ℕ, zero, suc}
use native.Mathlib.Numerals.{add-one}
use native.Mathlib.Omega.{arith}
use Rattle.std.specs.Fn.{Called}
use Rattle.std.specs.Iterator.{Drains, FoldTurn, ReducesItems}
use Rattle.std.specs.List.{filter, find, fold, range_with_len, reduce, FoldsTo}
use Rattle.std.specs.Option.{MatchOption, option_or}
use denote.Param.Members.{Mut}
use Rattle.std.specs.Prelude.{None, Option, Some}
use Rattle.std.proofs.lemmas.Fn.{fold_same, FoldsTo-push}
use Rattle.std.proofs.lemmas.Iterator.{YieldsList}
use Rattle.std.proofs.lemmas.Iterator.Consumers.{reduce_from_yields_List}
use Rattle.std.proofs.lemmas.List.Elements.{filter-append}
use Rattle.std.proofs.lemmas.List.Folds.{find-append}
use Rattle.std.proofs.lemmas.List.FromFn.{map-range_with_len_more}
use Rattle.std.proofs.lemmas.List.Sums.{fold-append}
use Rattle.fold.specs.Best.{against, best, never}

-- the numbers below n
abbrev pub below : ℕ → List ℕ
below n = range_with_len 0 n

below_more : (n : ℕ) → below (suc n) ≡ below n ++ (n ∷ [])
below_more n =
    ap below (sym (add-one n))
    ∙ (simp map-id at (map-range_with_len_more (λ (k : ℕ). k) 0 n n (omega arith)))

-- ---- what `reduce` gives of a chain, by a closure that computes h and changes nothing

module _ {F A : Type 0} (g : Mut F (A × (A × Unit {0})) A) (h : A → A → A) (f : F)
    (acts : (a z b : A) (q : F) → Called g f (a, (z, tt)) b q → (q ≡ f) × (b ≡ h a z)) where
  turns : (x : A) (xs : List A) (q : F) (y : A) → FoldsTo {P = F × A} (FoldTurn g) (f, x) xs (q, y)
      → FoldsTo (λ a z b. b ≡ h a z) x xs y
  turns x xs q y t =
      fold_same g (λ ys b. FoldsTo (λ a z b'. b' ≡ h a z) x ys b) f
      (λ ys a z b p i k. (FoldsTo-push (λ a' z' b'. b' ≡ h a' z') x ys a z b i (acts a z b p k).1, (acts a z b p k).0))
      xs x y q refl t

  reduced : {S : Type 0} {steps : S → Option A → S → Type 0} (s : S) (r : Option A) (all : List A) → ReducesItems steps g s f r → YieldsList steps (λ x. x) s all → r ≡ reduce h all
  reduced {steps = steps} s r all ran road = reduce_from_yields_List h s r (folded r ran) road
    where
      folded : (r : Option A) → ReducesItems steps g s f r
          → MatchOption r (Drains steps s []) (λ y. (x : A) × (xs : List A) × Drains steps s (x ∷ xs) × FoldsTo (λ a z b. b ≡ h a z) x xs y)
      folded None d = d
      folded (Some y) d = (d.0, d.1, d.3, turns d.0 d.1 d.2 y d.4)

module _ (ok : ℕ → Bool) (beats : ℕ → ℕ → Bool) where
  -- the better of two, the first where neither beats the other
  abbrev better : ℕ → ℕ → ℕ
  better b k = cond (beats k b) k b

  either_way : (t : Bool) (k b : ℕ) → Some (cond t k b) ≡ cond t (Some k) (Some b)
  either_way true k b = refl
  either_way false k b = refl

  one_more : (xs : List ℕ) (t : Bool) (n : ℕ)
      → reduce better (xs ++ cond t (n ∷ []) []) ≡ cond t (against beats n (reduce better xs)) (reduce better xs)
  one_more [] true n = refl
  one_more [] false n = refl
  one_more (x ∷ xs) true n =
      ap Some (fold-append better x xs (n ∷ [])) ∙ either_way (beats n (fold better x xs)) n (fold better x xs)
  one_more (x ∷ xs) false n = ap (reduce better) (append-nil (x ∷ xs))

  best-reduced : (n : ℕ) → reduce better (filter ok (below n)) ≡ best ok beats n
  unfolding best
  best-reduced zero = refl
  best-reduced (suc n) =
      ap (λ (xs : List ℕ). reduce better (filter ok xs)) (below_more n)
      ∙ ap (reduce better) (filter-append ok (below n) (n ∷ []))
      ∙ one_more (filter ok (below n)) (ok n) n
      ∙ ap (λ (r : Option ℕ). cond (ok n) (against beats n r) r) (best-reduced n)

  -- what `reduce` gives of a chain of those that pass, where each call of its closure gives the better of two
  pub best-of : {S F : Type 0} {steps : S → Option ℕ → S → Type 0} (g : Mut F (ℕ × (ℕ × Unit {0})) ℕ) {f : F} (s : S) (r : Option ℕ) (n : ℕ)
      → ReducesItems steps g s f r → YieldsList steps (λ x. x) s (filter ok (below n))
      → ((b k v : ℕ) (q : F) → Called g f (b, (k, tt)) v q → (q ≡ f) × (v ≡ cond (beats k b) k b)) → r ≡ best ok beats n
  best-of g {f = f} s r n ran road acts = reduced g better f acts s r (filter ok (below n)) ran road ∙ best-reduced n

module _ (ok : ℕ → Bool) where
  or_next : (t : Bool) (r : Option ℕ) (n : ℕ) → option_or r (cond t (Some n) None) ≡ cond t (against never n r) r
  or_next true None n = refl
  or_next true (Some b) n = refl
  or_next false None n = refl
  or_next false (Some b) n = refl

  pub first-found : (n : ℕ) → find ok (below n) ≡ best ok never n
  unfolding best
  first-found zero = refl
  first-found (suc n) =
      ap (find ok) (below_more n)
      ∙ find-append ok (below n) (n ∷ [])
      ∙ or_next (ok n) (find ok (below n)) n
      ∙ ap (λ (r : Option ℕ). cond (ok n) (against never n r) r) (first-found n)
