-- The words of a stretch of bytes that begins and ends between words are a part of the words of the whole. Assumes nothing.
use mathlib.Core.Path.{◌≡◌, refl, ap, ◌∙◌}
use mathlib.Core.List.{List, [], ◌∷◌}
use Prim.Native.Nat.{ℕ, zero, suc, ◌*◌}
use native.Mathlib.Omega.{arith}
use lib.ListN.{take, drop}
use Rattle.words.specs.Words.{word, words, part}

four_more : (a : ℕ) → 4 * suc a ≡ suc (suc (suc (suc (4 * a))))
four_more a = omega arith

words-drop : (a : ℕ) (s : List ℕ) → words (drop (4 * a) s) ≡ drop a (words s)
unfolding words
words-drop zero s = refl
words-drop (suc a) [] = rw four_more
words-drop (suc a) (w ∷ []) = rw four_more
words-drop (suc a) (w ∷ x ∷ []) = rw four_more
words-drop (suc a) (w ∷ x ∷ y ∷ []) = rw four_more
words-drop (suc a) (w ∷ x ∷ y ∷ z ∷ s) = rw four_more (words-drop a s)

words_take : (n : ℕ) (s : List ℕ) → words (take (4 * n) s) ≡ take n (words s)
unfolding words
words_take zero s = refl
words_take (suc n) [] = rw four_more
words_take (suc n) (w ∷ []) = rw four_more
words_take (suc n) (w ∷ x ∷ []) = rw four_more
words_take (suc n) (w ∷ x ∷ y ∷ []) = rw four_more
words_take (suc n) (w ∷ x ∷ y ∷ z ∷ s) = rw four_more (ap (λ (l : List ℕ). word w x y z ∷ l) (words_take n s))

pub words-part : (a n : ℕ) (s : List ℕ) → words (take (4 * n) (drop (4 * a) s)) ≡ part a n (words s)
words-part a n s = words_take n (drop (4 * a) s) ∙ ap (take n) (words-drop a s)
