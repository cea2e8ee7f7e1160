-- A record is a head and two arrays of n words: written, its words and its two arrays are read back, and one that was read is written
-- as the same bytes. Assumes nothing.
use mathlib.Core.Path.{◌≡◌, refl, sym, ap, ◌∙◌}
use mathlib.Core.List.{List, [], ◌∷◌, ◌++◌, append_assoc}
use Prim.Native.Nat.{ℕ, ◌+◌, ◌*◌, ◌≤◌, ◌<◌, ◌^◌}
use native.Mathlib.Omega.{arith}
use lib.ListN.{length, get_or, take, drop, length-append, length-drop, take-append-drop}
use lib.Seq.{take_at, drop_at, take_all, drop-drop}
use Rattle.words.specs.Words.{words, encode, part}
use Rattle.words.proofs.Words.{Below, below_none, below-cons, below-append, length-words, words-encode, encode-words}

-- ---- heads of two words, and of three

pub below_two : (b x y : ℕ) → x < b → y < b → Below b (x ∷ y ∷ [])
below_two b x y h k = below-cons b x (y ∷ []) h (below-cons b y [] k (below_none b))

pub below_three : (b x y z : ℕ) → x < b → y < b → z < b → Below b (x ∷ y ∷ z ∷ [])
below_three b x y z h k l = below-cons b x (y ∷ z ∷ []) h (below_two b y z k l)

pub take_two : (ws : List ℕ) → 2 ≤ length ws → take 2 ws ≡ get_or ws 0 0 ∷ get_or ws 1 0 ∷ []
take_two [] h = absurd (omega arith)
take_two (x ∷ []) h = absurd (omega arith)
take_two (x ∷ y ∷ ws) h = refl

pub take_three : (ws : List ℕ) → 3 ≤ length ws → take 3 ws ≡ get_or ws 0 0 ∷ get_or ws 1 0 ∷ get_or ws 2 0 ∷ []
take_three [] h = absurd (omega arith)
take_three (x ∷ []) h = absurd (omega arith)
take_three (x ∷ y ∷ []) h = absurd (omega arith)
take_three (x ∷ y ∷ z ∷ ws) h = refl

-- ---- written, then read

pub record Back (h xs ys : List ℕ) (n : ℕ) : Type 0 where
  pub all : words (encode (h ++ xs ++ ys)) ≡ h ++ xs ++ ys
  pub first : part (length h) n (words (encode (h ++ xs ++ ys))) ≡ xs
  pub second : part (length h + n) n (words (encode (h ++ xs ++ ys))) ≡ ys

pub record_back : (h xs ys : List ℕ) (n : ℕ) → length xs ≡ n → length ys ≡ n
    → Below (2 ^ 32) h → Below (2 ^ 32) xs → Below (2 ^ 32) ys → Back h xs ys n
record_back h xs ys n ex ey bh bx by =
    let e = words-encode (h ++ xs ++ ys) (below-append (2 ^ 32) (h ++ xs) ys (below-append (2 ^ 32) h xs bh bx) by) in
    let l : length (h ++ xs) ≡ length h + n = length-append h xs ∙ omega arith in
    record {
      all = e;
      first = rw (e, append_assoc h xs ys, drop_at h (xs ++ ys) (length h) refl) (take_at xs ys n ex);
      second = rw (e, drop_at (h ++ xs) ys (length h + n) l) (take_all n ys (omega arith));
    }

-- ---- read, then written

record_split : (ws : List ℕ) (a n : ℕ) → length ws ≡ a + 2 * n → ws ≡ take a ws ++ part a n ws ++ part (a + n) n ws
record_split ws a n e =
    let l : length (drop n (drop a ws)) ≤ n = simp length-drop (omega arith) in
    sym (append_assoc (take a ws) (part a n ws) (part (a + n) n ws)
    ∙ ap (λ (l : List ℕ). take a ws ++ l)
    (rw (← drop-drop n a ws, take_all n (drop n (drop a ws)) l) (take-append-drop n (drop a ws)))
    ∙ take-append-drop a ws)

pub record_again : (s h : List ℕ) (a n : ℕ) → Below 256 s → length s ≡ 4 * (a + 2 * n) → h ≡ take a (words s)
    → encode (h ++ part a n (words s) ++ part (a + n) n (words s)) ≡ s
record_again s h a n b l e =
    ap (λ (k : List ℕ). encode (k ++ part a n (words s) ++ part (a + n) n (words s))) e
    ∙ ap encode (sym (record_split (words s) a n (length-words s ∙ rw l (omega arith))))
    ∙ encode-words s (a + 2 * n) b l
