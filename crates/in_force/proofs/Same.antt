-- Two stretches of whole words hold the same bytes exactly where they hold the same words. Assumes nothing.
use mathlib.Core.Path.{◌≡◌, refl, sym, ap, ◌∙◌}
use mathlib.Core.Bool.{Bool, true, false, false≢true}
use mathlib.Core.List.{List}
use Prim.Native.Nat.{ℕ, ◌+◌, ◌*◌, ◌≤◌, ◌<◌}
use native.Mathlib.Omega.{arith}
use borrow.Author.Tests.{eqb-true, eq-eqb}
use lib.Dec.{eqb}
use lib.ListN.{length, get_or, take, drop, length-take, length-drop}
use lib.Seq.{ext_get_or, get_or-take, get_or-drop}
use mir.Syntax.{w8}
use mir.Val.{Fits}
use Rattle.std.proofs.lemmas.Bool.{false_from_ne_true}
use Rattle.std.specs.Bool.{Decides}
use Rattle.fold.proofs.Tests.{all-at, all_of}
use Rattle.words.specs.Words.{words, encode}
use Rattle.words.proofs.Words.{Below, encode-words, length_part, length-words}
use Rattle.arrays.specs.Arrays.{at}
use Rattle.plan.specs.Plan.{helpands_of}
use Rattle.in_force.specs.InForce.{same_helpands}
use Rattle.in_force.proofs.Stretch.{words-part}

-- lists of n entries that are the same at each node
pub same-list : (n : ℕ) (xs ys : List ℕ) → length xs ≡ n → length ys ≡ n → same_helpands n (at xs) (at ys) ≡ true → xs ≡ ys
same-list n xs ys l m s =
    ext_get_or 0 xs ys (l ∙ sym m)
    (λ i b. eqb-true (at xs i) (at ys i) (all-at n (λ k. eqb (at xs k) (at ys k)) s i (omega arith)))

-- the bytes of a part of s are bytes
below-stretch : (s : List ℕ) (a m : ℕ) → ((i : ℕ) → Fits w8 (get_or s i 0)) → Below 256 (take m (drop a s))
below-stretch s a m f i l =
    let b : i < m = omega (arith, length-take {A = ℕ}) in
    let e : get_or (take m (drop a s)) i 0 ≡ get_or s (a + i) 0 = get_or-take m (drop a s) i 0 b ∙ get_or-drop a s i 0 in
    omega (arith, e, f (a + i))

module _ (n : ℕ) (s t : List ℕ) (fs : (i : ℕ) → Fits w8 (get_or s i 0)) (ft : (i : ℕ) → Fits w8 (get_or t i 0))
    (ls : 4 * (3 + n) ≤ length s) (lt : 4 * (3 + n) ≤ length t) where
  -- the stretch of s, as the words say it
  stretch : (p : List ℕ) → ((i : ℕ) → Fits w8 (get_or p i 0)) → 4 * (3 + n) ≤ length p → encode (helpands_of p n) ≡ take (4 * n) (drop 12 p)
  stretch p f l =
      ap encode (sym (words-part 3 n p))
      ∙ encode-words (take (4 * n) (drop 12 p)) n (below-stretch p 12 (4 * n) f) (simp (length-take, length-drop) (omega arith))

  count : (p : List ℕ) → 4 * (3 + n) ≤ length p → length (helpands_of p n) ≡ n
  count p l = length_part 3 n (words p) (omega (arith, length-words p))

  pub same-bytes : (m : ℕ) → m ≡ 4 * n → (b : Bool) → Decides b (take m (drop 12 s) ≡ take m (drop 12 t))
      → b ≡ same_helpands n (at (helpands_of s n)) (at (helpands_of t n))
  same-bytes m is true d =
      let e : take (4 * n) (drop 12 s) ≡ take (4 * n) (drop 12 t) = rw is at (d.0 refl) in
      let f : helpands_of s n ≡ helpands_of t n = sym (words-part 3 n s) ∙ ap words e ∙ words-part 3 n t in
      sym (all_of n _ (λ k l. eq-eqb _ _ (ap (λ (h : List ℕ). at h k) f)))
  same-bytes m is false d =
      sym (false_from_ne_true _ (λ e.
      absurd (false≢true (d.1 (rw is (sym (stretch s fs ls) ∙ ap encode (same-list n _ _ (count s ls) (count t lt) e) ∙ stretch t ft lt))))))
