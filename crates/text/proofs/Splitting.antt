-- The ways of the split, and at the end that the sheet's part of the input is read as the whole input would be, or ends just where the
-- plan begins. Assumes nothing.
use mathlib.Core.Path.{◌≡◌, sym, ap, ◌∙◌}
use mathlib.Core.Logic.{◌≢◌}
use mathlib.Core.Bool.{Bool, true, false, cond}
use mathlib.Core.List.{List, ◌++◌}
use Prim.Native.Nat.{ℕ, ◌+◌, ◌*◌, ◌≤◌, ◌<◌, min}
use native.Mathlib.Omega.{arith}
use borrow.Author.Tests.{eq-eqb, ne_eqb}
use lib.Dec.{eqb}
use lib.ListN.{length, get_or, take, drop, length-append}
use lib.Seq.{take-length, take-append_seam, drop-append_seam}
use Rattle.words.specs.Words.{words}
use Rattle.sheet.specs.Sheet.{HeaderAnswer, refused, read_header, read_sheet}
use Rattle.sheet.proofs.Accepted.{FineHeader, header_fine, header_front, accepted_header, sheet-accepted, length-refused}
use Rattle.text.specs.Split.{split_at}

-- ---- the ways of the split

pub split-whole : (s : List ℕ) → (read_header s).refusal ≢ 0 → split_at s ≡ length s
unfolding split_at
split-whole s d = rw (ne_eqb (read_header s).refusal 0 d)

pub split-size : (s : List ℕ) → (read_header s).refusal ≡ 0 → split_at s ≡ min (4 * (3 + 2 * (read_header s).e)) (length s)
unfolding split_at
split-size s e = rw (eq-eqb (read_header s).refusal 0 e)

-- the sheet is within the input
pub split-le : (s : List ℕ) → split_at s ≤ length s
unfolding split_at
split-le s = under (eqb (read_header s).refusal 0) (4 * (3 + 2 * (read_header s).e)) (length s)
  where
    under : (b : Bool) (x y : ℕ) → cond b (min x y) y ≤ y
    under true x y = omega arith
    under false x y = omega arith

-- the words of a fine header
entries : (s : List ℕ) → FineHeader s → (read_header s).e ≡ get_or (words s) 2 0
entries s h = ap (λ (a : HeaderAnswer). a.e) h.is

-- ---- what the split means

-- THEOREM. Where the header is refused by 1 to 4, the sheet's part of the input gives that same refusal.
pub split-refused : (s : List ℕ) → (read_header s).refusal ≢ 0 → read_sheet (take (split_at s) s) ≡ read_sheet s
split-refused s d = rw (split-whole s d, take-length s)

-- THEOREM. Where the input is shorter than the sheet says, all of it is the sheet, and it is refused with 5.
pub split_short : (s : List ℕ) → (read_header s).refusal ≡ 0 → length s < 4 * (3 + 2 * (read_header s).e)
    → read_sheet (take (split_at s) s) ≡ refused 5
split_short s e l =
    let w : split_at s ≡ length s = split-size s e ∙ omega arith in
    let h = header_fine s e in
    rw (w, take-length s) (length-refused s h (λ z. omega (arith, entries s h)))

-- THEOREM. A sheet of the length that its header says, followed by an old plan or nothing, is split into just these two.
pub split-sheet : (s p : List ℕ) → (read_header s).refusal ≡ 0 → length s ≡ 4 * (3 + 2 * (read_header s).e)
    → (take (split_at (s ++ p)) (s ++ p) ≡ s) × (drop (split_at (s ++ p)) (s ++ p) ≡ p)
split-sheet s p q e =
    let f = header_front s p (header_fine s q).long in
    let w : split_at (s ++ p) ≡ length s =
    split-size (s ++ p) (rw f q) ∙ rw f (simp length-append (omega arith)) in
    rw w (take-append_seam s p, drop-append_seam s p)

-- THEOREM. So is every sheet that is accepted.
pub split-accepted : (s p : List ℕ) → (read_sheet s).refusal ≡ 0
    → (take (split_at (s ++ p)) (s ++ p) ≡ s) × (drop (split_at (s ++ p)) (s ++ p) ≡ p)
split-accepted s p q =
    let h = accepted_header s q in
    let a = sheet-accepted s q in
    split-sheet s p (ap (λ (x : HeaderAnswer). x.refusal) h.is)
    (a.size ∙ ap (λ (e : ℕ). 4 * (3 + 2 * e)) (a.e_is ∙ sym (entries s h)))
