-- The answer in numbers determines the reading: no two cases of the enum share their number and values. Assumes nothing.
use mathlib.Core.Path.{◌≡◌, refl, sym, ap, ◌∙◌}
use mathlib.Core.Bool.{cond}
use Prim.Native.Nat.{ℕ, ◌≤◌, ◌<◌}
use native.Mathlib.Omega.{arith}
use borrow.Author.Tests.{ne_eqb}
use lib.Dec.{eqb}
use Rattle.sheet.specs.declared.SheetRefusal.{SheetRefusal}
use Rattle.sheet.specs.declared.SheetRefusal.TheVariants.{Short, Nodes, Tolerance, Entries, Length, Cell, Count}
use Rattle.sheet.specs.declared.SheetAnswer.{SheetAnswer}
use Rattle.sheet.specs.Sheet.{refusal_number, answer_of}
use Rattle.std.specs.Prelude.{Err, Ok, Result}
use Rattle.sheet.specs.declared.Sheet.{Sheet}

-- the refusal of a number
abbrev pub refusal_of : ℕ → SheetRefusal
refusal_of k =
    cond (eqb k 1) Short (cond (eqb k 2) Nodes
    (cond (eqb k 3) Tolerance (cond (eqb k 4) Entries (cond (eqb k 5) Length (cond (eqb k 6) Cell Count)))))

-- the paper numbers them 1 to 7, and the number tells which refusal it is
pub numbered : (r : SheetRefusal) → (1 ≤ refusal_number r) × (refusal_number r ≤ 7) × (refusal_of (refusal_number r) ≡ r)
numbered Short = (omega arith, omega arith, refl)
numbered Nodes = (omega arith, omega arith, refl)
numbered Tolerance = (omega arith, omega arith, refl)
numbered Entries = (omega arith, omega arith, refl)
numbered Length = (omega arith, omega arith, refl)
numbered Cell = (omega arith, omega arith, refl)
numbered Count = (omega arith, omega arith, refl)

-- no refusal has the number 0
pub number_more : (r : SheetRefusal) → 0 < refusal_number r
number_more r = omega (arith, (numbered r).0)

-- the reading of an answer
abbrev reading_of : SheetAnswer → Result Sheet SheetRefusal
reading_of a =
    cond (eqb a.refusal 0) (Ok (record { n = a.n; t = a.t; e = a.e; p = a.p; limit = a.limit }))
    (Err (refusal_of a.refusal))

back : (r : Result Sheet SheetRefusal) → reading_of (answer_of r) ≡ r
back (Ok h) = refl
back (Err r) = rw (ne_eqb (refusal_number r) 0 (λ z. omega (arith, number_more r))) (ap Err (numbered r).2)

pub answer_determines : (r q : Result Sheet SheetRefusal) → answer_of r ≡ answer_of q → r ≡ q
answer_determines r q e = sym (back r) ∙ ap reading_of e ∙ back q
