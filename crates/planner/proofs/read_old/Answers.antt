-- `planner::read_old` meets its contract: each way out gives the answer of the first check that decides. Assumes nothing.
use mathlib.Core.Path.{◌≡◌, sym, ap, ◌∙◌}
use mathlib.Core.Bool.{Bool, not}
use native.Mathlib.Omega.{arith}
use borrow.Author.Tests.{eqb-true, eqb-false}
use lib.ListN.{length}
use Rattle.std.proofs.lemmas.Result.{err_from_is_err_and}
use Rattle.plan.specs.declared.PlanAnswer.{PlanAnswer}
use Rattle.plan.specs.Plan.{refusal_number}
use Rattle.plan.proofs.Answers.{number_more}
use Rattle.planner.specs.Step.{old_read}
use Rattle.planner.proofs.Ways.{old_empty, old-refused, old_differs, old-same}
use Rattle.planner.proofs.read_old.Goals as goal

pub returns-then-is_empty : goal.returns-then-is_empty
returns-then-is_empty c = old_empty c.args.old.now c.args.n (eqb-true (length c.args.old.now) 0 (sym c.is_empty.ensures ∙ c.if-is_empty.true))

pub returns-in_err-p : goal.returns-in_err-p
returns-in_err-p c =
    let a = c.args in
    let k = refusal_number c.in_err-p.field-0.0 in
    let p = err_from_is_err_and c.from_residual.result c.from_residual.ensures.1 in
    let d : k ≡ 0 → ⊥ = λ z. omega (arith, number_more c.in_err-p.field-0.0) in
    let e = ap (λ (x : PlanAnswer). x.refusal) c.in_err-p.ensures in
    rw (p.1, p.2) (old-refused a.old.now a.n (eqb-false (length c.args.old.now) 0 (sym c.is_empty.ensures ∙ c.if-is_empty.false)) k e d)

pub returns-then-p-n : goal.returns-then-p-n
returns-then-p-n c = old_differs c.args.old.now c.args.n (eqb-false (length c.args.old.now) 0 (sym c.is_empty.ensures ∙ c.if-is_empty.false)) _ _ _ c.in_ok-p.ensures c.if-p-n.true

pub returns : goal.returns
returns c =
    ap (λ (b : Bool). old_read (not b)) c.is_primary.ensures
    ∙ old-same c.args.old.now c.args.n (eqb-false (length c.args.old.now) 0 (sym c.is_empty.ensures ∙ c.if-is_empty.false)) _ _ _ c.in_ok-p.ensures c.if-p-n.false
