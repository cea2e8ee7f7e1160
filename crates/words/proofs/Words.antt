-- Laws of words: by index, there and back, and in parts. Assumes nothing.
use mathlib.Core.Path.{◌≡◌, refl, ap, ap₂}
use mathlib.Core.List.{List, [], ◌∷◌, ◌++◌}
use Prim.Native.Nat.{ℕ, zero, suc, ◌+◌, ◌*◌, ◌/◌, ◌%◌, ◌≤◌, ◌<◌, ◌^◌}
use native.Mathlib.Nat.{suc-add}
use native.Mathlib.Numerals.{add-one}
use native.Mathlib.Omega.{arith}
use lib.ListN.{length, get_or, take, drop, replicate, length-take, length-drop, drop_of_length-le}
use lib.Seq.{take-suc, drop-cons, get_or-take, get_or-drop}
use Rattle.std.specs.Int.{w32, from_le_bytes}
use Rattle.std.specs.Simd.{first_chunks}
use Rattle.words.specs.Words.{word, words, bytes_of, encode, part}

-- ---- lengths

pub length-words : (s : List ℕ) → length (words s) ≡ length s / 4
unfolding words
length-words [] = refl
length-words (a ∷ []) = refl
length-words (a ∷ b ∷ []) = refl
length-words (a ∷ b ∷ c ∷ []) = refl
length-words (a ∷ b ∷ c ∷ d ∷ s) = omega (arith, length-words s)

pub length-encode : (ws : List ℕ) → length (encode ws) ≡ 4 * length ws
unfolding encode
length-encode [] = refl
length-encode (w ∷ ws) = omega (arith, length-encode ws)

pub length_part : (a n : ℕ) (ws : List ℕ) → a + n ≤ length ws → length (part a n ws) ≡ n
length_part a n ws h = simp (length-take, length-drop) (omega arith)

-- ---- by index

pub words-at : (s : List ℕ) (i : ℕ) → 4 * i + 4 ≤ length s
    → get_or (words s) i 0 ≡ word (get_or s (4 * i) 0) (get_or s (4 * i + 1) 0) (get_or s (4 * i + 2) 0) (get_or s (4 * i + 3) 0)
unfolding words
words-at [] i h = absurd (omega arith)
words-at (a ∷ []) i h = absurd (omega arith)
words-at (a ∷ b ∷ []) i h = absurd (omega arith)
words-at (a ∷ b ∷ c ∷ []) i h = absurd (omega arith)
words-at (a ∷ b ∷ c ∷ d ∷ s) zero h = refl
words-at (a ∷ b ∷ c ∷ d ∷ s) (suc i) h =
    let e : 4 * suc i ≡ suc (suc (suc (suc (4 * i)))) = omega arith in
    let k : 4 * i + 4 ≤ length s = omega arith in
    rw e (simp suc-add (words-at s i k))

-- word k is what std reads of its chunk k of four bytes
pub chunk-word : (s : List ℕ) (k n : ℕ) → 4 * k + 4 ≤ length s → k < n
    → from_le_bytes w32 (get_or (first_chunks 4 n s) k []) ≡ get_or (words s) k 0
unfolding words
chunk-word s k zero h l = absurd (omega arith)
chunk-word [] k (suc n) h l = absurd (omega arith)
chunk-word (a ∷ []) k (suc n) h l = absurd (omega arith)
chunk-word (a ∷ b ∷ []) k (suc n) h l = absurd (omega arith)
chunk-word (a ∷ b ∷ c ∷ []) k (suc n) h l = absurd (omega arith)
chunk-word (a ∷ b ∷ c ∷ d ∷ s) zero (suc n) h l = omega arith
chunk-word (a ∷ b ∷ c ∷ d ∷ s) (suc k) (suc n) h l = chunk-word s k n (omega arith) (omega arith)

-- a word, whatever follows
pub word-front : (s p : List ℕ) (i : ℕ) → 4 * i + 4 ≤ length s → get_or (words (s ++ p)) i 0 ≡ get_or (words s) i 0
unfolding words
word-front [] p i h = absurd (omega arith)
word-front (a ∷ []) p i h = absurd (omega arith)
word-front (a ∷ b ∷ []) p i h = absurd (omega arith)
word-front (a ∷ b ∷ c ∷ []) p i h = absurd (omega arith)
word-front (a ∷ b ∷ c ∷ d ∷ s) p zero h = refl
word-front (a ∷ b ∷ c ∷ d ∷ s) p (suc i) h = word-front s p i (omega arith)

-- ---- there and back

-- every entry is below b
abbrev pub Below : ℕ → List ℕ → Type 0
Below b xs = (i : ℕ) → i < length xs → get_or xs i 0 < b

pub below_tail : (b x : ℕ) (xs : List ℕ) → Below b (x ∷ xs) → Below b xs
below_tail b x xs h i l = h (suc i) (omega arith)

pub below_none : (b : ℕ) → Below b []
below_none b i l = absurd (omega arith)

pub below-cons : (b x : ℕ) (xs : List ℕ) → x < b → Below b xs → Below b (x ∷ xs)
below-cons b x xs h t zero l = h
below-cons b x xs h t (suc i) l = t i (omega arith)

pub below-append : (b : ℕ) (xs ys : List ℕ) → Below b xs → Below b ys → Below b (xs ++ ys)
below-append b [] ys h k = k
below-append b (x ∷ xs) ys h k = below-cons b x (xs ++ ys) (h 0 (omega arith)) (below-append b xs ys (below_tail b x xs h) k)

pub words-encode : (ws : List ℕ) → Below (2 ^ 32) ws → words (encode ws) ≡ ws
unfolding words encode
words-encode [] h = refl
words-encode (w ∷ ws) h =
    let l : w < 2 ^ 32 = h 0 (omega arith) in
    let e : word (w % 256) (w / 256 % 256) (w / 65536 % 256) (w / 16777216) ≡ w = omega arith in
    ap₂ (λ (x : ℕ) (l : List ℕ). x ∷ l) e (words-encode ws (below_tail (2 ^ 32) w ws h))

-- bytes that are whole words
pub encode-words : (s : List ℕ) (k : ℕ) → Below 256 s → length s ≡ 4 * k → encode (words s) ≡ s
unfolding words encode
encode-words [] k h e = refl
encode-words (a ∷ []) k h e = absurd (omega arith)
encode-words (a ∷ b ∷ []) k h e = absurd (omega arith)
encode-words (a ∷ b ∷ c ∷ []) k h e = absurd (omega arith)
encode-words (a ∷ b ∷ c ∷ d ∷ s) zero h e = absurd (omega arith)
encode-words (a ∷ b ∷ c ∷ d ∷ s) (suc k) h e =
    let ha : a < 256 = h 0 (omega arith) in
    let hb : b < 256 = h 1 (omega arith) in
    let hc : c < 256 = h 2 (omega arith) in
    let hd : d < 256 = h 3 (omega arith) in
    let e₁ : word a b c d / 256 ≡ b + 256 * (c + 256 * d) = omega arith in
    let e₂ : word a b c d / 65536 ≡ c + 256 * d = omega arith in
    let e₃ : word a b c d / 16777216 ≡ d = omega arith in
    let f₀ : word a b c d % 256 ≡ a = omega arith in
    let f₁ : (b + 256 * (c + 256 * d)) % 256 ≡ b = omega arith in
    let f₂ : (c + 256 * d) % 256 ≡ c = omega arith in
    rw (e₁, e₂, e₃, f₀, f₁, f₂)
    (ap (λ (l : List ℕ). a ∷ b ∷ c ∷ d ∷ l) (encode-words s k (λ i l. h (suc (suc (suc (suc i)))) (omega arith)) (omega arith)))

pub encode-append : (us vs : List ℕ) → encode (us ++ vs) ≡ encode us ++ encode vs
unfolding encode
encode-append [] vs = refl
encode-append (u ∷ us) vs = ap (λ (l : List ℕ). bytes_of u ++ l) (encode-append us vs)

-- zeros
pub encode-zeros : (n : ℕ) → encode (replicate n 0) ≡ replicate (4 * n) 0
unfolding encode
encode-zeros zero = refl
encode-zeros (suc n) =
    let e : 4 * suc n ≡ suc (suc (suc (suc (4 * n)))) = omega arith in
    rw e (ap (λ (l : List ℕ). 0 ∷ 0 ∷ 0 ∷ 0 ∷ l) (encode-zeros n))

-- one more word, at the end of the list, and of what is taken of a list
pub encode_snoc : (ws : List ℕ) (w : ℕ) → encode (ws ++ (w ∷ [])) ≡ encode ws ++ bytes_of w
unfolding encode
encode_snoc ws w = encode-append ws (w ∷ [])

pub encode_more : (ws : List ℕ) (i : ℕ) → i < length ws → encode (take (i + 1) ws) ≡ encode (take i ws) ++ bytes_of (get_or ws i 0)
encode_more ws i h = rw (add-one, take-suc ws i 0) (encode_snoc (take i ws) (get_or ws i 0))

-- ---- a part, met one by one

-- what is left of a part at i begins with the word at a + i
pub part_more : (s : List ℕ) (a n i : ℕ) → i < n → 4 * (a + n) ≤ length s
    → drop i (part a n (words s)) ≡ get_or (words s) (a + i) 0 ∷ drop (i + 1) (part a n (words s))
part_more s a n i h k =
    let l : i < length (part a n (words s)) = simp (length-take, length-drop, length-words) (omega arith) in
    rw (add-one, drop-cons (part a n (words s)) i 0, get_or-take, get_or-drop)

-- and there is nothing left at n
pub part_end : (s : List ℕ) (a n i : ℕ) → n ≤ i → drop i (part a n (words s)) ≡ []
part_end s a n i h =
    let l : length (part a n (words s)) ≤ i = simp length-take (omega arith) in
    drop_of_length-le (part a n (words s)) l

pub part_at : (ws : List ℕ) (a n i : ℕ) → i < n → get_or (part a n ws) i 0 ≡ get_or ws (a + i) 0
part_at ws a n i h = rw (get_or-take, get_or-drop)

-- one more word of a part
pub part-suc : (ws : List ℕ) (a n : ℕ) → a + n < length ws → part a (n + 1) ws ≡ part a n ws ++ (get_or ws (a + n) 0 ∷ [])
part-suc ws a n h =
    let l : n < length (drop a ws) = simp length-drop (omega arith) in
    rw (add-one, take-suc (drop a ws) n 0, get_or-drop)
