-- `weigh::weigh` meets its contract: the sheet's refusal, then the plan's, then 21, then 24, then what weighing both gives. Assumes
-- nothing.
use mathlib.Core.Path.{sym, ap, ◌∙◌}
use native.Mathlib.Omega.{arith}
use Rattle.std.proofs.lemmas.Result.{err_from_is_err_and}
use Rattle.sheet.specs.declared.SheetAnswer.{SheetAnswer}
use Rattle.sheet.specs.Sheet.{refusal_number as sheet_number}
use Rattle.sheet.proofs.Answers.{number_more as sheet-more}
use Rattle.plan.specs.declared.PlanAnswer.{PlanAnswer}
use Rattle.plan.specs.Plan.{refusal_number as plan_number}
use Rattle.plan.proofs.Answers.{number_more as plan-more}
use Rattle.weigh.specs.declared.check.CheckRefusal.TheVariants.{Sheet, Plan, NodesDiffer, Primary}
use Rattle.weigh.proofs.Checks.{stops_sheet, stops_plan, stops_differ, stops_primary, stops_nowhere}
use Rattle.weigh.proofs.Weighed.{ends_refused}
use Rattle.weigh.proofs.weigh.Goals as goal

pub returns-in_err-s : goal.returns-in_err-s
returns-in_err-s c =
    let p = err_from_is_err_and c.from_residual.result c.from_residual.ensures.1 in
    let r = c.in_err-s.field-0.0 in
    let e = ends_refused _ _ c.args.least.now (Sheet r)
    (stops_sheet _ _ (sheet_number r) (ap (λ (x : SheetAnswer). x.refusal) c.in_err-s.ensures) (λ z. omega (arith, sheet-more r))) in
    record { answer = rw (p.1, p.2) e.0; bytes = e.1 }

pub returns-in_err-p : goal.returns-in_err-p
returns-in_err-p c =
    let p = err_from_is_err_and c.from_residual-in_err-p.result c.from_residual-in_err-p.ensures.1 in
    let r = c.in_err-p.field-0.0 in
    let e = ends_refused _ _ c.args.least.now (Plan r)
    (stops_plan _ _ (ap (λ (x : SheetAnswer). x.refusal) c.in_ok-s.ensures) (plan_number r)
    (ap (λ (x : PlanAnswer). x.refusal) c.in_err-p.ensures) (λ z. omega (arith, plan-more r))) in
    record { answer = rw (p.1, p.2) e.0; bytes = e.1 }

pub returns-then-s-p : goal.returns-then-s-p
returns-then-s-p c =
    let e = ends_refused _ _ c.args.least.now NodesDiffer (stops_differ _ _ c.in_ok-s.ensures c.in_ok-p.ensures c.if-s-p.true) in
    record { answer = e.0; bytes = e.1 }

pub returns-then-is_primary : goal.returns-then-is_primary
returns-then-is_primary c =
    let e = ends_refused _ _ c.args.least.now Primary
    (stops_primary _ _ c.in_ok-s.ensures c.in_ok-p.ensures (omega (arith, c.if-s-p.false)) (sym c.if-is_primary.true ∙ c.is_primary.ensures)) in
    record { answer = e.0; bytes = e.1 }
