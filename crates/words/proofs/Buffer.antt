-- Laws of stores into a lent buffer: runs of words, one after the other, and apart from each other. Assumes nothing.
use mathlib.Core.Path.{◌≡◌, refl, sym, ap, ◌∙◌}
use mathlib.Core.Bool.{Bool, true, false, cond}
use mathlib.Core.List.{List, [], ◌∷◌, ◌++◌}
use Prim.Native.Nat.{ℕ, zero, suc, ◌+◌, ◌*◌, ◌/◌, ◌%◌, ◌^◌, ◌≤◌, ◌<◌}
use native.Mathlib.Nat.{suc-add, add-suc, add-zero, zero-add}
use native.Mathlib.Numerals.{add-one, add-two, add-three}
use native.Mathlib.Omega.{arith}
use borrow.Author.Tests.{lt-ltb, le-ltb, ltb-false, ltb-true, eq-eqb}
use lib.Dec.{ltb}
use lib.ListN.{length, take, drop, set, length-append, length-set, length-take}
use lib.Seq.{sets, sets-eq, set_comm, take_at}
use Rattle.std.specs.Int.{w32, to_le_bytes}
use Rattle.words.specs.Words.{bytes_of, encode, put_word, part}
use Rattle.words.specs.Buffer.{placed, after_call, written, writing, too_short}
use Rattle.words.proofs.Words.{length-encode, length_part, encode-append}
use Rattle.std.specs.Prelude.{Err, Ok}

-- a run of stores in two parts
pub sets-append : (l : List ℕ) (i : ℕ) (us vs : List ℕ) → sets l i (us ++ vs) ≡ sets (sets l i us) (i + length us) vs
sets-append l i [] vs = rw (add-zero i)
sets-append l i (u ∷ us) vs = sets-append (set l i u) (suc i) us vs ∙ rw (suc-add i (length us), add-suc i (length us))

-- a word leaves the length
pub length_put : (l : List ℕ) (i w : ℕ) → length (put_word l i w) ≡ length l
length_put l i w = simp length-set

-- a word is a run of four stores
pub put_sets : (l : List ℕ) (i w : ℕ) → put_word l i w ≡ sets l i (bytes_of w)
put_sets l i w = rw (add-one i, add-two i, add-three i)

-- and stands between what was before and behind it
pub put-eq : (l : List ℕ) (i w : ℕ) → i + 4 ≤ length l → put_word l i w ≡ take i l ++ bytes_of w ++ drop (i + 4) l
put-eq l i w h = put_sets l i w ∙ sets-eq (bytes_of w) l i h

-- std's four bytes of a word are those of `bytes_of`
pub low_bytes : (w : ℕ) → w < 2 ^ 32 → to_le_bytes w32 w ≡ bytes_of w
low_bytes w h = let e : w / 16777216 % 256 ≡ w / 16777216 = omega arith in rw e

-- a word right behind a run of words
pub put_behind : (l : List ℕ) (i : ℕ) (ws : List ℕ) (w : ℕ)
    → put_word (sets l i (encode ws)) (i + 4 * length ws) w ≡ sets l i (encode ws ++ bytes_of w)
put_behind l i ws w =
    put_sets (sets l i (encode ws)) (i + 4 * length ws) w
    ∙ ap (λ (j : ℕ). sets (sets l i (encode ws)) (i + j) (bytes_of w)) (sym (length-encode ws))
    ∙ sym (sets-append l i (encode ws) (bytes_of w))

-- a store in front of a run of stores, made after it or before it
pub set-sets : (l : List ℕ) (i : ℕ) (vs : List ℕ) (j v : ℕ) → j < i → set (sets l i vs) j v ≡ sets (set l j v) i vs
set-sets l i [] j v h = refl
set-sets l i (x ∷ vs) j v h =
    set-sets (set l i x) (suc i) vs j v (omega arith)
    ∙ ap (λ (k : List ℕ). sets k (suc i) vs) (set_comm l i j x v (λ e. omega arith))

-- the same of a word
pub put_before : (l : List ℕ) (i : ℕ) (vs : List ℕ) (j w : ℕ) → j + 4 ≤ i → put_word (sets l i vs) j w ≡ sets (put_word l j w) i vs
put_before l i vs j w h =
    let h₀ : j < i = omega arith in
    let h₁ : j + 1 < i = omega arith in
    let h₂ : j + 2 < i = omega arith in
    let h₃ : j + 3 < i = omega arith in
    simp set-sets

-- a run of stores from the start is the record, with the buffer's own bytes behind it
pub sets-placed : (rec out : List ℕ) → length rec ≤ length out → sets out 0 rec ≡ placed rec out
sets-placed rec out h = sets-eq rec out 0 (omega arith) ∙ rw zero-add

-- words that were read to the front of an array, with the array's own entries behind them
pub read_placed : (ws out xs : List ℕ) (a k : ℕ) → a + k ≤ length ws → k ≤ length out → xs ≡ part a (length (take k out)) ws
    → xs ++ drop k out ≡ placed (part a k ws) out
read_placed ws out xs a k h l e =
    let n : length (take k out) ≡ k = simp length-take (omega arith) in
    rw (e, n, length_part a k ws h)

-- a word of a record, and of a record that stands in front of a buffer
put_encode : (ws rest : List ℕ) (k w : ℕ) → k < length ws → put_word (encode ws ++ rest) (4 * k) w ≡ encode (set ws k w) ++ rest
unfolding encode
put_encode [] rest k w h = absurd (omega arith)
put_encode (x ∷ ws) rest zero w h = refl
put_encode (x ∷ ws) rest (suc k) w h =
    let e : 4 * suc k ≡ suc (suc (suc (suc (4 * k)))) = omega arith in
    rw e (simp suc-add (ap (λ (l : List ℕ). bytes_of x ++ l) (put_encode ws rest k w (omega arith))))

pub put_placed : (ws out : List ℕ) (k w : ℕ) → k < length ws
    → put_word (placed (encode ws) out) (4 * k) w ≡ placed (encode (set ws k w)) out
put_placed ws out k w h =
    let e : length (encode ws) ≡ length (encode (set ws k w)) = simp (length-encode, length-set) in
    put_encode ws (drop (length (encode ws)) out) k w h ∙ ap (λ (n : ℕ). encode (set ws k w) ++ drop n out) e

-- a head and two arrays, each a run of its own, are one record
pub record_placed : (out h xs ys : List ℕ) (a b : ℕ) → a ≡ 4 * length h → b ≡ 4 * (length h + length xs)
    → 4 * (length h + length xs + length ys) ≤ length out
    → sets (sets (sets out 0 (encode h)) a (encode xs)) b (encode ys) ≡ placed (encode (h ++ xs ++ ys)) out
record_placed out h xs ys a b ea eb fits =
    let ha : a ≡ 0 + length (encode h) = simp length-encode (omega arith) in
    let hb : b ≡ 0 + length (encode h ++ encode xs) = simp (length-append, length-encode) (omega arith) in
    let le : length (encode h ++ encode xs ++ encode ys) ≤ length out = simp (length-append, length-encode) (omega arith) in
    rw (ha, ← sets-append out 0 (encode h) (encode xs), hb, ← sets-append out 0 (encode h ++ encode xs) (encode ys))
    (sets-placed (encode h ++ encode xs ++ encode ys) out le
    ∙ ap (λ (r : List ℕ). placed r out) (sym (encode-append (h ++ xs) ys ∙ ap (λ (l : List ℕ). l ++ encode ys) (encode-append h xs))))

-- ---- a record of k bytes, in a buffer that is too short for it, and in one that is not

module _ (rec out : List ℕ) (k : ℕ) (e : length rec ≡ k) where
  pub short_writes : length out < k → (Err too_short ≡ writing rec out) × (out ≡ written rec out)
  short_writes h = rw (lt-ltb (length out) (length rec) (omega arith)) (refl, refl)

  pub long_writes : k ≤ length out → (Ok k ≡ writing rec out) × (placed rec out ≡ written rec out)
  long_writes h = rw (le-ltb (length out) (length rec) (omega arith)) (ap Ok (sym e), refl)

-- and back: what a writer answers says whether the record fits, and so what it wrote
module _ (rec out : List ℕ) where
  pub writing-bytes : (size : ℕ) → Ok size ≡ writing rec out
      → (size ≡ length rec) × (length rec ≤ length out) × (written rec out ≡ placed rec out)
  writing-bytes size e = go (ltb (length out) (length rec)) refl e
    where
      go : (b : Bool) → ltb (length out) (length rec) ≡ b → Ok size ≡ cond b (Err too_short) (Ok (length rec))
          → (size ≡ length rec) × (length rec ≤ length out) × (cond b out (placed rec out) ≡ placed rec out)
      go true w q = let z : ◌≡◌ {A = ℕ} 0 1 = cc in absurd (omega arith)
      go false w q = let z : size ≡ length rec = cc in (z, ltb-false (length out) (length rec) w, refl)

  pub writing_short : Err too_short ≡ writing rec out → (length out < length rec) × (written rec out ≡ out)
  writing_short e = go (ltb (length out) (length rec)) refl e
    where
      go : (b : Bool) → ltb (length out) (length rec) ≡ b → Err too_short ≡ cond b (Err too_short) (Ok (length rec))
          → (length out < length rec) × (cond b out (placed rec out) ≡ out)
      go true w q = (ltb-true (length out) (length rec) w, refl)
      go false w q = let z : ◌≡◌ {A = ℕ} 0 1 = cc in absurd (omega arith)

-- after an accepted call the bytes of the record's length are the record
pub after_front : (refusal : ℕ) (rec out : List ℕ) → refusal ≡ 0 → take (length rec) (after_call refusal rec out) ≡ rec
after_front refusal rec out e = rw (eq-eqb refusal 0 e) (take_at rec (drop (length rec) out) (length rec) refl)
