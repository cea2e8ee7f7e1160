-- `planner::plan_step` meets its contract: the sheet's refusal, then the old plan's, then what is planned. Assumes nothing.
use mathlib.Core.Path.{◌≡◌, sym, ap, ◌∙◌}
use mathlib.Core.Logic.{◌≢◌}
use Rattle.std.proofs.lemmas.Result.{err_from_is_err_and}
use Rattle.sheet.specs.declared.SheetAnswer.{SheetAnswer}
use Rattle.sheet.specs.Sheet.{read_sheet, answer_of as sheet_answer}
use Rattle.std.specs.Prelude.{Ok}
use Rattle.planner.specs.Step.{number_of}
use Rattle.planner.proofs.Ways.{ends_sheet, ends_old, number_more, refusal_more}
use Rattle.planner.proofs.plan_step.Goals.{In_default, In-Ok}
use Rattle.planner.proofs.plan_step.Goals as goal

-- a sheet that was refused: its number is not 0
not-zero : (c : In_default) → (sheet_answer c.read_sheet-reading.result).refusal ≢ 0
not-zero c = refusal_more _ _ c.in_default.is

-- and one that was read
sheet-read : (c : In-Ok) → sheet_answer (Ok c.in-Ok.s) ≡ read_sheet c.args.sheet.now
sheet-read c = ap sheet_answer (sym c.in-Ok.is) ∙ c.read_sheet-reading.ensures

pub not_read-requires : goal.not_read-requires
not_read-requires c = not-zero (goal.at.not_read-requires c).In_default

pub returns-in_default : goal.returns-in_default
returns-in_default c =
    let k = (sheet_answer c.read_sheet-reading.result).refusal in
    let e = ap (λ (x : SheetAnswer). x.refusal) c.read_sheet-reading.ensures in
    let ends = ends_sheet _ _ _ _ k e (not-zero (goal.at.returns-in_default c).In_default) in
    record { answer = c.not_read.ensures ∙ ends.0; plan = ends.1.0; moves = ends.1.1 }

pub returns-in_err-tree : goal.returns-in_err-tree
returns-in_err-tree c =
    let p = err_from_is_err_and c.from_residual.result c.from_residual.ensures.1 in
    let read = sheet-read (goal.at.returns-in_err-tree c).In-Ok in
    let r = c.in_err-tree.field-0.0 in
    let ends = ends_old _ _ _ _ c.in-Ok.s.n (ap (λ (x : SheetAnswer). x.refusal) read) (ap (λ (x : SheetAnswer). x.n) read)
    (number_of r) c.in_err-tree.ensures (number_more r) in
    rw (p.1, p.2) (record { answer = ends.0; plan = ends.1.0; moves = ends.1.1 })

pub plan_read-requires : goal.plan_read-requires
plan_read-requires c =
    record { sheet = sheet-read (goal.at.plan_read-requires c).In-Ok; old = sym c.in_ok-tree.ensures }
