-- The answer in numbers determines the reading: no two cases of the enum share their number and values. Assumes nothing.
use mathlib.Core.Path.{◌≡◌, refl, sym, ap, ◌∙◌}
use mathlib.Core.Bool.{cond}
use Prim.Native.Nat.{ℕ, ◌≤◌, ◌<◌}
use native.Mathlib.Omega.{arith}
use borrow.Author.Tests.{ne_eqb}
use lib.Dec.{eqb}
use Rattle.moves.specs.declared.MovesRefusal.{MovesRefusal}
use Rattle.moves.specs.declared.MovesRefusal.TheVariants.{Short, Nodes, Entries, Length, Route, Count}
use Rattle.moves.specs.declared.MovesAnswer.{MovesAnswer}
use Rattle.moves.specs.Moves.{refusal_number, answer_of}
use Rattle.std.specs.Prelude.{Err, Ok, Result}
use Rattle.moves.specs.declared.Moves.{Moves}

-- the refusal of a number
abbrev pub refusal_of : ℕ → MovesRefusal
refusal_of k =
    cond (eqb k 31) Short (cond (eqb k 32) Nodes (cond (eqb k 33) Entries (cond (eqb k 34) Length (cond (eqb k 35) Route Count))))

-- the paper numbers them 31 to 36, and the number tells which refusal it is
pub numbered : (r : MovesRefusal) → (31 ≤ refusal_number r) × (refusal_number r ≤ 36) × (refusal_of (refusal_number r) ≡ r)
numbered Short = (omega arith, omega arith, refl)
numbered Nodes = (omega arith, omega arith, refl)
numbered Entries = (omega arith, omega arith, refl)
numbered Length = (omega arith, omega arith, refl)
numbered Route = (omega arith, omega arith, refl)
numbered Count = (omega arith, omega arith, refl)

-- no refusal has the number 0
pub number_more : (r : MovesRefusal) → 0 < refusal_number r
number_more r = omega (arith, (numbered r).0)

-- the reading of an answer
abbrev reading_of : MovesAnswer → Result Moves MovesRefusal
reading_of a = cond (eqb a.refusal 0) (Ok (record { n = a.n; e = a.e })) (Err (refusal_of a.refusal))

back : (r : Result Moves MovesRefusal) → reading_of (answer_of r) ≡ r
back (Ok m) = refl
back (Err r) = rw (ne_eqb (refusal_number r) 0 (λ z. omega (arith, number_more r))) (ap Err (numbered r).2)

pub answer_determines : (r q : Result Moves MovesRefusal) → answer_of r ≡ answer_of q → r ≡ q
answer_determines r q e = sym (back r) ∙ ap reading_of e ∙ back q
