-- `carry::check::read_pair` meets its contract: the sheet's refusal, then the moves', then 41. Assumes nothing.
use mathlib.Core.Path.{ap}
use native.Mathlib.Omega.{arith}
use Rattle.std.proofs.lemmas.Result.{err_from_is_err_and}
use Rattle.sheet.specs.declared.SheetAnswer.{SheetAnswer}
use Rattle.sheet.specs.Sheet.{refusal_number as sheet_number}
use Rattle.sheet.proofs.Answers.{numbered as sheet-numbered}
use Rattle.moves.specs.declared.MovesAnswer.{MovesAnswer}
use Rattle.moves.specs.Moves.{refusal_number as moves_number}
use Rattle.moves.proofs.Answers.{numbered as moves-numbered}
use Rattle.carry.proofs.Checks.{stops_sheet, stops_moves, stops_differ}
use Rattle.carry.proofs.check.read_pair.Goals as goal

pub returns-in_err-s : goal.returns-in_err-s
returns-in_err-s c =
    let r = c.in_err-s.field-0.0 in
    let p = err_from_is_err_and c.from_residual.result c.from_residual.ensures.1 in
    let n = sheet-numbered r in
    let is = ap (λ (a : SheetAnswer). a.refusal) c.in_err-s.ensures in
    rw (p.1, p.2) (stops_sheet _ _ (sheet_number r) is (λ z. omega (arith, n.0)), omega (arith, n.1))

pub returns-in_err-m : goal.returns-in_err-m
returns-in_err-m c =
    let r = c.in_err-m.field-0.0 in
    let p = err_from_is_err_and c.from_residual-in_err-m.result c.from_residual-in_err-m.ensures.1 in
    let n = moves-numbered r in
    let read = ap (λ (a : SheetAnswer). a.refusal) c.in_ok-s.ensures in
    let is = ap (λ (a : MovesAnswer). a.refusal) c.in_err-m.ensures in
    rw (p.1, p.2) (stops_moves _ _ read (moves_number r) is (λ z. omega (arith, n.0)), omega (arith, n.1))

pub returns-then-s-m : goal.returns-then-s-m
returns-then-s-m c =
    (stops_differ _ _ c.in_ok-s.ensures c.in_ok-m.ensures (λ same. omega (arith, c.if-s-m.true, same)), omega arith)
