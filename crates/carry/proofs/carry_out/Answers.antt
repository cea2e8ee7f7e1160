-- `carry::carry_out` meets its contract: the refusal of both records, or what carrying out gives. Assumes nothing.
use Rattle.std.proofs.lemmas.Result.{err_from_is_err_and}
use Rattle.carry.proofs.Carried.{ends_refused}
use Rattle.carry.proofs.carry_out.Goals as goal

pub returns-in_err-s : goal.returns-in_err-s
returns-in_err-s c =
    let p = err_from_is_err_and c.from_residual.result c.from_residual.ensures.1 in
    let whole = ends_refused _ _ _ c.in_err-s.field-0.0 c.in_err-s.ensures.0 in
    rw (p.1, p.2) (record { answer = whole.0; bytes = whole.1 })
