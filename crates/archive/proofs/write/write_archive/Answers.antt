-- `archive::write::write_archive` meets its contract: the sheet's refusal, or what writing gives. Assumes nothing.
use mathlib.Core.Path.{ap}
use native.Mathlib.Omega.{arith}
use Rattle.std.proofs.lemmas.Result.{err_from_is_err_and}
use Rattle.sheet.specs.declared.SheetAnswer.{SheetAnswer}
use Rattle.sheet.specs.Sheet.{refusal_number}
use Rattle.sheet.proofs.Answers.{number_more}
use Rattle.archive.proofs.Checks.{ends_sheet}
use Rattle.archive.proofs.write.write_archive.Goals as goal

pub returns-in_err-h : goal.returns-in_err-h
returns-in_err-h c =
    let r = c.in_err-h.field-0.0 in
    let e = err_from_is_err_and c.from_residual.result c.from_residual.ensures.1 in
    let x = ends_sheet _ c.args.archive.now (refusal_number r) (ap (λ (x : SheetAnswer). x.refusal) c.in_err-h.ensures)
    (λ z. omega (arith, number_more r)) in
    record { answer = rw (e.1, e.2) x.0; bytes = x.1 }
