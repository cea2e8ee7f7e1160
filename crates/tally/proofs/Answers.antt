-- The answer in numbers determines the opening or the call: no two cases of the enum share their number and values. Assumes nothing.
use mathlib.Core.Path.{◌≡◌, refl, sym, ap, ◌∙◌}
use mathlib.Core.Bool.{true, false, cond}
use Prim.Native.Nat.{ℕ, ◌≤◌}
use native.Mathlib.Omega.{arith}
use borrow.Author.Tests.{le-leb, ne_eqb}
use lib.Dec.{eqb, leb}
use Rattle.weigh.specs.declared.WeighAnswer.{WeighAnswer}
use Rattle.weigh.specs.Checks.{check_number}
use Rattle.weigh.proofs.Answers.{check_of, numbered as check-numbered}
use Rattle.tally.specs.declared.TallyRefusal.{TallyRefusal}
use Rattle.tally.specs.declared.TallyRefusal.TheVariants.{Check, NoCell, TooFew, TooMany}
use Rattle.tally.specs.Tally.{number_of, answer_of}
use Rattle.std.specs.Prelude.{Bool, Err, Ok, Result}

-- the refusal of a number
abbrev refusal_of : ℕ → TallyRefusal
refusal_of k = cond (leb k 24) (Check (check_of k)) (cond (eqb k 58) NoCell (cond (eqb k 59) TooFew TooMany))

-- no number is 0, and the number tells which refusal it is
pub numbered : (r : TallyRefusal) → (1 ≤ number_of r) × (refusal_of (number_of r) ≡ r)
numbered (Check r) =
    let n = check-numbered r in
    (n.0, rw (le-leb (check_number r) 24 n.1) (ap Check n.2))
numbered NoCell = (omega arith, refl)
numbered TooFew = (omega arith, refl)
numbered TooMany = (omega arith, refl)

abbrev tallying_of : WeighAnswer → Result Bool TallyRefusal
tallying_of a = cond (eqb a.refusal 0) (Ok (eqb a.holds 1)) (Err (refusal_of a.refusal))

back : (t : Result Bool TallyRefusal) → tallying_of (answer_of t) ≡ t
back (Ok true) = refl
back (Ok false) = refl
back (Err r) =
    let n = numbered r in
    rw (ne_eqb (number_of r) 0 (λ z. omega (arith, n.0))) (ap Err n.1)

-- THEOREM. Two openings or calls with the same numbers are the same.
pub answer_determines : (a b : Result Bool TallyRefusal) → answer_of a ≡ answer_of b → a ≡ b
answer_determines a b e = sym (back a) ∙ ap tallying_of e ∙ back b
