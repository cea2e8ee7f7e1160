-- Numbers in columns: column by column from the last to the first, and read back from their columns. Assumes nothing.
use mathlib.Core.Path.{◌≡◌, refl, sym, ap, ◌∙◌}
use mathlib.Core.List.{List, [], ◌∷◌, ◌++◌, append_assoc, append-nil}
use Prim.Native.Nat.{ℕ, zero, suc, ◌+◌, ◌-◌, ◌/◌, ◌%◌, ◌^◌, ◌≤◌, ◌<◌}
use native.Mathlib.Nat.{add-zero}
use native.Mathlib.Decide.{dec_lt}
use native.Mathlib.Omega.{arith}
use borrow.Author.Tests.{ne_eqb}
use lib.ListN.{length, set, replicate, length-append, length-replicate, replicate-append-replicate}
use lib.Seq.{sets, length-sets}
use Rattle.words.proofs.Buffer.{set-sets}
use Rattle.text.specs.Text.{digit, digits, decimal, blank}
use Rattle.text.specs.Columns.{right_aligned, read_from, read_column}
use Rattle.text.specs.Inner.{Put, column_byte}
use Rattle.text.proofs.Digits.{shorter, digits-one, digits_more, decimal-one, decimal_more, length_more, read-decimal}

-- ---- how many

pub length_aligned : (width : ℕ) (text : List ℕ) → length text ≤ width → length (right_aligned width text) ≡ width
length_aligned width text h = simp (length-append, length-replicate) (omega arith)

-- a number has at least one digit
pub decimal-some : (x : ℕ) → x < 2 ^ 32 → 1 ≤ length (decimal x)
decimal-some x h = elim (dec_lt x 10) [
  | yes l ↦ rw (decimal-one x l) (omega arith)
  | no m ↦ omega (arith, length_more x (omega arith) h)
]

-- as many columns as there are digits
pub aligned_exact : (text : List ℕ) → right_aligned (length text) text ≡ text
aligned_exact text =
    let z : length text - length text ≡ 0 = omega arith in
    rw z

-- ---- the columns before the last digit: what is left of the number stands in them, with blanks before it

unfoldable pub columns : ℕ → ℕ → List ℕ
columns zero rest = []
columns (suc i) rest = columns i (rest / 10) ++ (column_byte rest ∷ [])

pub columns_more : (i rest : ℕ) → columns (suc i) rest ≡ columns i (rest / 10) ++ (column_byte rest ∷ [])
unfolding columns
columns_more i rest = refl

length-columns : (i rest : ℕ) → length (columns i rest) ≡ i
unfolding columns
length-columns zero rest = refl
length-columns (suc i) rest = simp length-append (omega (arith, length-columns i (rest / 10)))

columns-none : (i : ℕ) → columns i 0 ≡ replicate i blank
unfolding columns
columns-none zero = refl
columns-none (suc i) =
    let e : i + 1 ≡ suc i = omega arith in
    ap (λ (bs : List ℕ). bs ++ (blank ∷ [])) (columns-none i)
    ∙ replicate-append-replicate i 1 blank
    ∙ ap (λ (k : ℕ). replicate k blank) e

-- one digit more and one column more
aligned_more : (w : ℕ) (text : List ℕ) (b : ℕ) → right_aligned (suc w) (text ++ (b ∷ [])) ≡ right_aligned w text ++ (b ∷ [])
aligned_more w text b =
    let e : suc w - length (text ++ (b ∷ [])) ≡ w - length text = rw (length-append text (b ∷ [])) (omega arith) in
    rw e (sym (append_assoc (replicate (w - length text) blank) text (b ∷ [])))

aligned_digit : (w b : ℕ) → right_aligned (suc w) (b ∷ []) ≡ columns w 0 ++ (b ∷ [])
aligned_digit w b =
    let e : suc w - 1 ≡ w = omega arith in
    rw e (ap (λ (bs : List ℕ). bs ++ (b ∷ [])) (sym (columns-none w)))

columns-some : (i rest : ℕ) → 1 ≤ rest → rest < 2 ^ 32 → length (decimal rest) ≤ i → columns i rest ≡ right_aligned i (decimal rest)
columns-some zero rest h l fits = absurd (omega (arith, decimal-some rest l))
columns-some (suc i) rest h l fits =
    elim (dec_lt rest 10) [
      | yes m ↦
          let low : rest / 10 ≡ 0 = omega arith in
          let last : rest % 10 ≡ rest = omega arith in
          columns_more i rest
          ∙ rw (ne_eqb rest 0 (λ z. omega arith), low, last) refl
          ∙ sym (aligned_digit i (digit rest))
          ∙ ap (right_aligned (suc i)) (sym (decimal-one rest m))
      | no m ↦
          let more : 10 ≤ rest = omega arith in
          columns_more i rest
          ∙ rw (ne_eqb rest 0 (λ z. omega arith)) refl
          ∙ ap (λ (bs : List ℕ). bs ++ (digit (rest % 10) ∷ []))
          (columns-some i (rest / 10) (omega arith) (omega arith) (omega (arith, length_more rest more l)))
          ∙ sym (aligned_more i (decimal (rest / 10)) (digit (rest % 10)))
          ∙ ap (right_aligned (suc i)) (sym (decimal_more rest more l))
    ]

-- a number in its columns: the last digit, and the columns before it
aligned_columns : (w x : ℕ) → x < 2 ^ 32 → length (decimal x) ≤ suc w
    → right_aligned (suc w) (decimal x) ≡ columns w (x / 10) ++ (digit (x % 10) ∷ [])
aligned_columns w x l fits =
    elim (dec_lt x 10) [
      | yes m ↦
          let low : x / 10 ≡ 0 = omega arith in
          let last : x % 10 ≡ x = omega arith in
          rw (low, last, decimal-one x m) (aligned_digit w (digit x))
      | no m ↦
          let more : 10 ≤ x = omega arith in
          ap (right_aligned (suc w)) (decimal_more x more l)
          ∙ aligned_more w (decimal (x / 10)) (digit (x % 10))
          ∙ ap (λ (bs : List ℕ). bs ++ (digit (x % 10) ∷ []))
          (sym (columns-some w (x / 10) (omega arith) (omega arith) (omega (arith, length_more x more l))))
    ]

-- the same for any width
pub aligned_right : (width x : ℕ) → x < 2 ^ 32 → length (decimal x) ≤ width
    → right_aligned width (decimal x) ≡ columns (width - 1) (x / 10) ++ (digit (x % 10) ∷ [])
aligned_right width x l fits =
    let some = decimal-some x l in
    let e : suc (width - 1) ≡ width = omega (arith, some) in
    ap (λ (w : ℕ). right_aligned w (decimal x)) (sym e) ∙ aligned_columns (width - 1) x l (omega (arith, some))

-- ---- the w columns before the last, from the right: i of them are left, and rest is what is left of the number

pub record Filling (out₀ : List ℕ) (at w x : ℕ) (out : List ℕ) (i rest : ℕ) : Type 0 where
  pub done : List ℕ
  pub is : columns w (x / 10) ≡ columns i rest ++ done
  pub bytes : out ≡ sets out₀ (at + i) done
  pub i_le : i ≤ w

module _ (out₀ : List ℕ) (at w x : ℕ) where
  pub filling_none : Filling out₀ at w x out₀ w (x / 10)
  filling_none = record { done = []; is = sym (append-nil (columns w (x / 10))); bytes = refl; i_le = omega arith }

  module _ {out : List ℕ} {i rest : ℕ} (f : Filling out₀ at w x out i rest) where
    pub filling_length : length out ≡ length out₀
    filling_length = ap length f.bytes ∙ length-sets out₀ (at + i) f.done

    pub filling_more : 0 < i → Filling out₀ at w x (set out (at + (i - 1)) (column_byte rest)) (i - 1) (rest / 10)
    filling_more h =
        let b = column_byte rest in
        let e : suc (i - 1) ≡ i = omega arith in
        let next : suc (at + (i - 1)) ≡ at + i = omega arith in
        record {
          done = b ∷ f.done;
          is =
              f.is
              ∙ ap (λ (bs : List ℕ). bs ++ f.done) (ap (λ (k : ℕ). columns k rest) (sym e) ∙ columns_more (i - 1) rest)
              ∙ append_assoc (columns (i - 1) (rest / 10)) (b ∷ []) f.done;
          bytes =
              ap (λ (bs : List ℕ). set bs (at + (i - 1)) b) f.bytes
              ∙ set-sets out₀ (at + i) f.done (at + (i - 1)) b (omega arith)
              ∙ ap (λ (k : ℕ). sets (set out₀ (at + (i - 1)) b) k f.done) (sym next);
          i_le = omega (arith, f.i_le);
        }

    -- none is left
    pub filling_all : i ≡ 0 → Put out₀ at (columns w (x / 10)) out (at + w)
    unfolding columns
    filling_all e =
        let is : columns w (x / 10) ≡ f.done = rw e at f.is in
        record { index = rw (length-columns w (x / 10)); bytes = f.bytes ∙ rw (e, is, add-zero at) }

-- ---- read back

-- blanks are passed over
read_blanks : (k : ℕ) (text : List ℕ) → read_column (replicate k blank ++ text) ≡ read_column text
unfolding read_column
read_blanks zero text = refl
read_blanks (suc k) text = read_blanks k text

-- digits begin with a byte that is no blank
record Begins (text : List ℕ) : Type 0 where
  first : ℕ
  rest : List ℕ
  is : text ≡ first ∷ rest
  high : 48 ≤ first

begins_one : (x : ℕ) → Begins (digit x ∷ [])
begins_one x = record { first = digit x; rest = []; is = refl; high = omega arith }

begins_more : {text : List ℕ} (b : ℕ) → Begins text → Begins (text ++ (b ∷ []))
begins_more b g = record {
  first = g.first;
  rest = g.rest ++ (b ∷ []);
  is = ap (λ (bs : List ℕ). bs ++ (b ∷ [])) g.is;
  high = g.high;
}

digits_begin : (k x : ℕ) → x < 10 ^ suc k → Begins (digits (suc k) x)
digits_begin zero x h = rw (digits-one 0 x h) (begins_one x)
digits_begin (suc k) x h =
    elim (dec_lt x 10) [
      | yes l ↦ rw (digits-one (suc k) x l) (begins_one x)
      | no m ↦ rw (digits_more (suc k) x (omega arith)) (begins_more (digit (x % 10)) (digits_begin k (x / 10) (shorter k x h)))
    ]

read-digit : {text : List ℕ} → Begins text → read_column text ≡ read_from 0 text
unfolding read_column
read-digit g = rw (g.is, ne_eqb g.first blank (λ z. omega (arith, g.high)))

-- THEOREM. A word in columns, with blanks before it, is read back as the word.
pub read_aligned : (width x : ℕ) → x < 2 ^ 32 → read_column (right_aligned width (decimal x)) ≡ x
read_aligned width x h =
    read_blanks (width - length (decimal x)) (decimal x) ∙ read-digit (digits_begin 9 x (omega arith)) ∙ read-decimal x h
