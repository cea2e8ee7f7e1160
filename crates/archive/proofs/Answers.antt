-- The answer in numbers determines what was done: no two cases of an enum share their number and values. Assumes nothing.
use mathlib.Core.Path.{◌≡◌, refl, sym, ap, ◌∙◌}
use mathlib.Core.Bool.{cond}
use Prim.Native.Nat.{ℕ}
use native.Mathlib.Omega.{arith}
use borrow.Author.Tests.{le-leb, ne_eqb}
use lib.Dec.{eqb, leb}
use Rattle.words.specs.declared.WrittenAnswer.{WrittenAnswer}
use Rattle.sheet.specs.declared.SheetRefusal.{SheetRefusal}
use Rattle.sheet.specs.Sheet.{refusal_number as sheet_number}
use Rattle.sheet.proofs.Answers.{refusal_of as sheet_refusal, numbered}
use Rattle.archive.specs.declared.write.Archived.{Archived}
use Rattle.archive.specs.declared.write.WriteRefusal.{WriteRefusal}
use Rattle.archive.specs.declared.write.WriteRefusal.TheVariants.{Sheet, Buffer as WriteBuffer}
use Rattle.archive.specs.declared.read.ReadRefusal.{ReadRefusal}
use Rattle.archive.specs.declared.read.ReadRefusal.TheVariants.{Length, Nodes, Tolerance, Count, Buffer as ReadBuffer}
use Rattle.archive.specs.Archive.{writing_of, reading_of}
use Rattle.std.specs.Prelude.{Err, Ok, Result}

-- ---- *write archive*

-- the refusal of a number
abbrev write_refusal : ℕ → WriteRefusal
write_refusal k = cond (leb k 7) (Sheet (sheet_refusal k)) WriteBuffer

abbrev writing_from : WrittenAnswer → Result Archived WriteRefusal
writing_from a = cond (eqb a.refusal 0) (Ok (record {})) (Err (write_refusal a.refusal))

writing_back : (w : Result Archived WriteRefusal) → writing_from (writing_of w) ≡ w
writing_back (Ok w) = refl
writing_back (Err (Sheet r)) =
    let n = numbered r in
    rw (ne_eqb (sheet_number r) 0 (λ z. omega (arith, n.0)), le-leb (sheet_number r) 7 n.1)
    (ap (λ (x : SheetRefusal). Err (Sheet x)) n.2)
writing_back (Err WriteBuffer) = refl

-- THEOREM. Two writings with the same numbers are the same.
pub writing_determines : (a b : Result Archived WriteRefusal) → writing_of a ≡ writing_of b → a ≡ b
writing_determines a b e = sym (writing_back a) ∙ ap writing_from e ∙ writing_back b

-- ---- *read archive*

abbrev read_refusal : ℕ → ReadRefusal
read_refusal k = cond (eqb k 54) Length (cond (eqb k 2) Nodes (cond (eqb k 3) Tolerance (cond (eqb k 55) Count ReadBuffer)))

abbrev reading_from : WrittenAnswer → Result ℕ ReadRefusal
reading_from a = cond (eqb a.refusal 0) (Ok a.bytes) (Err (read_refusal a.refusal))

reading_back : (r : Result ℕ ReadRefusal) → reading_from (reading_of r) ≡ r
reading_back (Ok bytes) = refl
reading_back (Err Length) = refl
reading_back (Err Nodes) = refl
reading_back (Err Tolerance) = refl
reading_back (Err Count) = refl
reading_back (Err ReadBuffer) = refl

-- THEOREM. Two readings with the same numbers are the same.
pub reading_determines : (a b : Result ℕ ReadRefusal) → reading_of a ≡ reading_of b → a ≡ b
reading_determines a b e = sym (reading_back a) ∙ ap reading_from e ∙ reading_back b
