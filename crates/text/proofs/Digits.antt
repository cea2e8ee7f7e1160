-- Laws of decimal digits: those of x are those of x / 10 and one more. At the end, that a number is read back from its digits.
-- Assumes nothing.
use mathlib.Core.Path.{◌≡◌, refl, sym, ap, ◌∙◌}
use mathlib.Core.List.{List, [], ◌∷◌, ◌++◌}
use Prim.Native.Nat.{ℕ, zero, suc, ◌+◌, ◌*◌, ◌-◌, ◌/◌, ◌%◌, ◌^◌, ◌≤◌, ◌<◌}
use native.Mathlib.Decide.{dec_lt}
use native.Mathlib.Nat.{pow-suc}
use native.Mathlib.Omega.{arith}
use borrow.Author.Tests.{lt-ltb, le-ltb}
use lib.ListN.{length, length-append}
use Rattle.text.specs.Text.{digit, digits, decimal}
use Rattle.text.specs.Columns.{read_from}

-- ---- the two ways of a number

pub digits-one : (k x : ℕ) → x < 10 → digits (suc k) x ≡ digit x ∷ []
unfolding digits
digits-one k x h = rw (lt-ltb x 10 h)

pub digits_more : (k x : ℕ) → 10 ≤ x → digits (suc k) x ≡ digits k (x / 10) ++ (digit (x % 10) ∷ [])
unfolding digits
digits_more k x h = rw (le-ltb x 10 h)

-- x < 10 ^ (k + 2) without its last digit
pub shorter : (k x : ℕ) → x < 10 ^ suc (suc k) → x / 10 < 10 ^ suc k
shorter k x h =
    let l : x < 10 ^ suc k * 10 = rw (pow-suc 10 (suc k)) at h in
    omega arith

-- room for more digits than there are changes nothing
digits-room : (k x : ℕ) → x < 10 ^ suc k → digits (suc (suc k)) x ≡ digits (suc k) x
digits-room zero x h = digits-one 1 x h ∙ sym (digits-one 0 x h)
digits-room (suc k) x h =
    elim (dec_lt x 10) [
      | yes l ↦ digits-one (suc (suc k)) x l ∙ sym (digits-one (suc k) x l)
      | no m ↦
          let l : 10 ≤ x = omega arith in
          digits_more (suc (suc k)) x l
          ∙ ap (λ (ds : List ℕ). ds ++ (digit (x % 10) ∷ [])) (digits-room k (x / 10) (shorter k x h))
          ∙ sym (digits_more (suc k) x l)
    ]

pub decimal-one : (x : ℕ) → x < 10 → decimal x ≡ digit x ∷ []
decimal-one x h = digits-one 9 x h

pub decimal_more : (x : ℕ) → 10 ≤ x → x < 2 ^ 32 → decimal x ≡ decimal (x / 10) ++ (digit (x % 10) ∷ [])
decimal_more x h l =
    digits_more 9 x h ∙ ap (λ (ds : List ℕ). ds ++ (digit (x % 10) ∷ [])) (sym (digits-room 8 (x / 10) (omega arith)))

-- ---- how many there are

pub length_more : (x : ℕ) → 10 ≤ x → x < 2 ^ 32 → length (decimal x) ≡ length (decimal (x / 10)) + 1
length_more x h l = ap length (decimal_more x h l) ∙ length-append (decimal (x / 10)) (digit (x % 10) ∷ [])

pub digits_le : (k x : ℕ) → length (digits k x) ≤ k
digits_le zero x = unfold digits in omega arith
digits_le (suc k) x =
    elim (dec_lt x 10) [
      | yes l ↦ rw (digits-one k x l) (omega arith)
      | no m ↦
          let l : 10 ≤ x = omega arith in
          rw (digits_more k x l, length-append (digits k (x / 10)) (digit (x % 10) ∷ [])) (omega (arith, digits_le k (x / 10)))
    ]

pub digits_short : (k d x : ℕ) → x < 10 ^ suc d → length (digits k x) ≤ suc d
digits_short zero d x h = unfold digits in omega arith
digits_short (suc k) d x h =
    elim (dec_lt x 10) [
      | yes l ↦ rw (digits-one k x l) (omega arith)
      | no m ↦
          let l : 10 ≤ x = omega arith in
          rw (digits_more k x l, length-append (digits k (x / 10)) (digit (x % 10) ∷ [])) (fewer d h l (λ e. digits_short k e (x / 10)))
    ]
  where
    fewer : (e : ℕ) → x < 10 ^ suc e → 10 ≤ x → ((f : ℕ) → x / 10 < 10 ^ suc f → length (digits k (x / 10)) ≤ suc f)
        → length (digits k (x / 10)) + 1 ≤ suc e
    fewer zero h l ih = absurd (omega arith)
    fewer (suc e) h l ih = omega (arith, ih e (shorter e x h))

-- ---- reading them back

read-last : (x : ℕ) (ds : List ℕ) (d : ℕ) → read_from x (ds ++ (d ∷ [])) ≡ 10 * read_from x ds + (d - 48)
unfolding read_from
read-last x [] d = refl
read-last x (e ∷ ds) d = read-last (10 * x + (e - 48)) ds d

read_one : (d : ℕ) → read_from 0 (digit d ∷ []) ≡ d
unfolding read_from
read_one d = omega arith

read-digits : (k x : ℕ) → x < 10 ^ suc k → read_from 0 (digits (suc k) x) ≡ x
read-digits zero x h = rw (digits-one 0 x h) (read_one x)
read-digits (suc k) x h =
    elim (dec_lt x 10) [
      | yes l ↦ rw (digits-one (suc k) x l) (read_one x)
      | no m ↦
          let l : 10 ≤ x = omega arith in
          rw (digits_more (suc k) x l, read-last 0 (digits (suc k) (x / 10)) (digit (x % 10)), read-digits k (x / 10) (shorter k x h))
          (omega arith)
    ]

-- ---- what the digits of a word are

-- THEOREM. A word's digits read back as the word.
pub read-decimal : (x : ℕ) → x < 2 ^ 32 → read_from 0 (decimal x) ≡ x
read-decimal x h = read-digits 9 x (omega arith)

-- THEOREM. No two words print alike.
pub decimal_injective : (x y : ℕ) → x < 2 ^ 32 → y < 2 ^ 32 → decimal x ≡ decimal y → x ≡ y
decimal_injective x y h l e = sym (read-decimal x h) ∙ ap (read_from 0) e ∙ read-decimal y l
