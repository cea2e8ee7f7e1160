-- The answer in numbers determines the weighing: no two cases of the enum share their number and values. Assumes nothing.
use mathlib.Core.Path.{◌≡◌, refl, sym, ap, ◌∙◌}
use mathlib.Core.Bool.{Bool, true, false, cond}
use Prim.Native.Nat.{ℕ, ◌≤◌}
use native.Mathlib.Omega.{arith}
use borrow.Author.Tests.{le-leb, lt-leb, ne_eqb}
use lib.Dec.{eqb, leb}
use mir.Val.{bool_byte}
use Rattle.fold.specs.Sum.{only}
use Rattle.sheet.specs.Sheet.{refusal_number as sheet_number}
use Rattle.sheet.proofs.Answers.{refusal_of as sheet_refusal, numbered as sheet-numbered}
use Rattle.plan.specs.Plan.{refusal_number as plan_number}
use Rattle.plan.proofs.Answers.{refusal_of as plan_refusal, numbered as plan-numbered}
use Rattle.weigh.specs.declared.check.CheckRefusal.{CheckRefusal}
use Rattle.weigh.specs.declared.check.CheckRefusal.TheVariants.{Sheet, Plan, NodesDiffer, Primary}
use Rattle.weigh.specs.declared.WeighRefusal.{WeighRefusal}
use Rattle.weigh.specs.declared.WeighRefusal.TheVariants.{Check, Buffer}
use Rattle.weigh.specs.declared.WeighAnswer.{WeighAnswer}
use Rattle.weigh.specs.Checks.{check_number}
use Rattle.weigh.specs.Weigh.{answer_of}
use Rattle.std.specs.Prelude.{Bool, Err, Ok, Result}

-- a bool as the number that crosses
pub bool-number : (b : Bool) → bool_byte b ≡ only b 1
bool-number true = refl
bool-number false = refl

-- ---- the checks

-- the refusal of a number
abbrev pub check_of : ℕ → CheckRefusal
check_of k = cond (leb k 7) (Sheet (sheet_refusal k)) (cond (leb k 18) (Plan (plan_refusal k)) (cond (eqb k 21) NodesDiffer Primary))

-- their numbers are 1 to 24, and the number tells which refusal it is
pub numbered : (r : CheckRefusal) → (1 ≤ check_number r) × (check_number r ≤ 24) × (check_of (check_number r) ≡ r)
numbered (Sheet r) =
    let n = sheet-numbered r in
    (n.0, omega (arith, n.1), rw (le-leb (sheet_number r) 7 n.1) (ap Sheet n.2))
numbered (Plan r) =
    let n = plan-numbered r in
    let more = lt-leb (plan_number r) 7 (omega (arith, n.0)) in
    (omega (arith, n.0), omega (arith, n.1), rw (more, le-leb (plan_number r) 18 n.1) (ap Plan n.2))
numbered NodesDiffer = (omega arith, omega arith, refl)
numbered Primary = (omega arith, omega arith, refl)

-- ---- the weighing

-- the refusal of a number
abbrev refusal_of : ℕ → WeighRefusal
refusal_of k = cond (leb k 24) (Check (check_of k)) Buffer

-- the weighing of an answer
abbrev weighing_of : WeighAnswer → Result Bool WeighRefusal
weighing_of a = cond (eqb a.refusal 0) (Ok (eqb a.holds 1)) (Err (refusal_of a.refusal))

back : (w : Result Bool WeighRefusal) → weighing_of (answer_of w) ≡ w
back (Ok true) = refl
back (Ok false) = refl
back (Err (Check r)) =
    let n = numbered r in
    rw (ne_eqb (check_number r) 0 (λ z. omega (arith, n.0)), le-leb (check_number r) 24 n.1)
    (ap (λ (x : CheckRefusal). Err (Check x)) n.2)
back (Err Buffer) = refl

-- THEOREM. Two weighings with the same numbers are the same.
pub answer_determines : (a b : Result Bool WeighRefusal) → answer_of a ≡ answer_of b → a ≡ b
answer_determines a b e = sym (back a) ∙ ap weighing_of e ∙ back b
