-- The answer in numbers determines the joining: no two cases of the enum share their number and values. Assumes nothing.
use mathlib.Core.Path.{◌≡◌, refl, sym, ap, ◌∙◌}
use mathlib.Core.Bool.{cond}
use Prim.Native.Nat.{ℕ}
use native.Mathlib.Omega.{arith}
use borrow.Author.Tests.{le-leb, ne_eqb}
use lib.Dec.{eqb, leb}
use Rattle.words.specs.declared.WrittenAnswer.{WrittenAnswer}
use Rattle.sheet.specs.declared.SheetRefusal.{SheetRefusal}
use Rattle.sheet.specs.Sheet.{refusal_number as sheet_number}
use Rattle.sheet.proofs.Answers.{refusal_of as sheet_refusal, numbered}
use Rattle.inlet.specs.declared.JoinRefusal.{JoinRefusal}
use Rattle.inlet.specs.declared.JoinRefusal.TheVariants.{Sheet, SheetsDiffer, Buffer}
use Rattle.inlet.specs.Join.{answer_of}
use Rattle.std.specs.Prelude.{Err, Ok, Result}

-- the refusal of a number
abbrev refusal_of : ℕ → JoinRefusal
refusal_of k = cond (leb k 7) (Sheet (sheet_refusal k)) (cond (eqb k 51) SheetsDiffer Buffer)

-- the joining of an answer
abbrev joining_of : WrittenAnswer → Result ℕ JoinRefusal
joining_of a = cond (eqb a.refusal 0) (Ok a.bytes) (Err (refusal_of a.refusal))

back : (j : Result ℕ JoinRefusal) → joining_of (answer_of j) ≡ j
back (Ok bytes) = refl
back (Err (Sheet r)) =
    let n = numbered r in
    rw (ne_eqb (sheet_number r) 0 (λ z. omega (arith, n.0)), le-leb (sheet_number r) 7 n.1)
    (ap (λ (x : SheetRefusal). Err (Sheet x)) n.2)
back (Err SheetsDiffer) = refl
back (Err Buffer) = refl

-- THEOREM. Two joinings with the same numbers are the same.
pub answer_determines : (a b : Result ℕ JoinRefusal) → answer_of a ≡ answer_of b → a ≡ b
answer_determines a b e = sym (back a) ∙ ap joining_of e ∙ back b
