-- The answer in numbers determines the step: no two cases of the enum share their number and values. Assumes nothing.
use mathlib.Core.Path.{◌≡◌, refl, sym, ap, ◌∙◌}
use mathlib.Core.Bool.{cond}
use Prim.Native.Nat.{ℕ}
use native.Mathlib.Omega.{arith}
use borrow.Author.Tests.{le-leb, lt-leb, ne_eqb}
use lib.Dec.{eqb, leb}
use Rattle.sheet.specs.declared.SheetRefusal.{SheetRefusal}
use Rattle.sheet.specs.Sheet.{refusal_number as sheet_number}
use Rattle.sheet.proofs.Answers.{refusal_of as sheet_refusal, numbered as sheet-numbered}
use Rattle.plan.specs.declared.Kind.{Kind}
use Rattle.plan.specs.declared.PlanRefusal.{PlanRefusal}
use Rattle.plan.specs.Plan.{refusal_number as plan_number}
use Rattle.plan.proofs.Answers.{refusal_of as plan_refusal, numbered as plan-numbered, kind_from, kind_back}
use Rattle.planner.specs.declared.StepRefusal.{StepRefusal}
use Rattle.planner.specs.declared.StepRefusal.TheVariants.{Sheet, Plan, NodesDiffer, PlanBuffer, MovesBuffer}
use Rattle.planner.specs.declared.StepAnswer.{StepAnswer}
use Rattle.planner.specs.Step.{answer_of}
use Rattle.std.specs.Prelude.{Err, Ok, Result}
use Rattle.planner.specs.declared.PlannedStep.{PlannedStep}

-- the refusal of a number
abbrev refusal_of : ℕ → StepRefusal
refusal_of k =
    cond (leb k 7) (Sheet (sheet_refusal k))
    (cond (leb k 18) (Plan (plan_refusal k)) (cond (eqb k 21) NodesDiffer (cond (eqb k 22) PlanBuffer MovesBuffer)))

-- the step of an answer
abbrev step_of : StepAnswer → Result PlannedStep StepRefusal
step_of a =
    let planned = Ok (record { kind = kind_from a.kind; limit = a.limit; plan = a.plan; moves = a.moves }) in
    cond (eqb a.refusal 0) planned (Err (refusal_of a.refusal))

back : (s : Result PlannedStep StepRefusal) → step_of (answer_of s) ≡ s
back (Ok p) = ap (λ (k : Kind). Ok (record { kind = k; limit = p.limit; plan = p.plan; moves = p.moves })) (kind_back p.kind)
back (Err (Sheet r)) =
    let n = sheet-numbered r in
    rw (ne_eqb (sheet_number r) 0 (λ z. omega (arith, n.0)), le-leb (sheet_number r) 7 n.1)
    (ap (λ (x : SheetRefusal). Err (Sheet x)) n.2)
back (Err (Plan r)) =
    let n = plan-numbered r in
    rw (ne_eqb (plan_number r) 0 (λ z. omega (arith, n.0)), lt-leb (plan_number r) 7 (omega (arith, n.0)), le-leb (plan_number r) 18 n.1)
    (ap (λ (x : PlanRefusal). Err (Plan x)) n.2)
back (Err NodesDiffer) = refl
back (Err PlanBuffer) = refl
back (Err MovesBuffer) = refl

-- THEOREM. Two steps with the same numbers are the same.
pub answer_determines : (a b : Result PlannedStep StepRefusal) → answer_of a ≡ answer_of b → a ≡ b
answer_determines a b e = sym (back a) ∙ ap step_of e ∙ back b
