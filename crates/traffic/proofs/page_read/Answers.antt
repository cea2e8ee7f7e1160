-- `traffic::page_read` meets its contract: each way out gives the answer of the first check that refuses, and past them the page is
-- that of the traffic that was added up. Assumes nothing.
use mathlib.Core.Path.{◌≡◌, sym, ◌∙◌}
use mathlib.Core.Bool.{true}
use native.Mathlib.Omega.{arith}
use Rattle.sheet.proofs.Accepted.{sheet_unpackable}
use Rattle.carry.specs.Checks.{within_in}
use Rattle.carry.proofs.Checks.{sheet_facts, ready, within-is}
use Rattle.traffic.proofs.Printed.{countable, sums_fit, ends_sends, ends_short, ends_printed}
use Rattle.traffic.proofs.page_read.Goals.{After-subtract_sends, Else-not-subtract_sends}
use Rattle.traffic.proofs.page_read.Goals as goal

within-here : (c : After-subtract_sends) → c.subtract_sends.result ≡ within_in c.args.sheet.now c.args.moves.now
within-here c = c.subtract_sends.ensures.answer ∙ within-is c.requires c.unpack-table.ensures

within : (c : Else-not-subtract_sends) → within_in c.args.sheet.now c.args.moves.now ≡ true
within c =
    sym (c.subtract_sends.ensures.answer ∙ within-is c.requires c.unpack-table.ensures) ∙ c.if-not-subtract_sends.false

pub unpack-table-requires : goal.unpack-table-requires
unpack-table-requires c = (_, sheet_unpackable _ _ (sheet_facts c.requires))

pub subtract_sends-requires : goal.subtract_sends-requires
subtract_sends-requires c = ready c.requires c.unpack-table.ensures

pub returns-then-not-subtract_sends : goal.returns-then-not-subtract_sends
returns-then-not-subtract_sends c =
    let here = (goal.at.returns-then-not-subtract_sends c).After-subtract_sends in
    let whole = ends_sends c.requires _ (sym (within-here here) ∙ c.if-not-subtract_sends.true) in
    record { answer = whole.0; bytes = whole.1 }

-- N is at most 64, so that the page's length fits
pub overflow_mul-size : goal.overflow_mul-size
overflow_mul-size c = omega (arith, (sheet_facts c.requires).n_high)

pub overflow_cast-result : goal.overflow_cast-result
overflow_cast-result c = omega (arith, (sheet_facts c.requires).n_high)

pub returns-then-page-size : goal.returns-then-page-size
returns-then-page-size c =
    let here = (goal.at.returns-then-page-size c).Else-not-subtract_sends in
    let whole = ends_short c.requires c.args.page.now (within here) (omega (arith, c.if-page-size.true)) in
    record { answer = whole.0; bytes = whole.1 }

pub count_traffic-requires : goal.count_traffic-requires
count_traffic-requires c = countable c.requires c.args.page.now (within (goal.at.count_traffic-requires c).Else-not-subtract_sends)

pub put_page-requires : goal.put_page-requires
put_page-requires c =
    let here = (goal.at.put_page-requires c).Else-not-subtract_sends in
    let fit = sums_fit c.requires c.args.page.now (within here) c.count_traffic.ensures in
    ((sheet_facts c.requires).n_high, fit.0, fit.1, c.if-page-size.false)

pub returns : goal.returns
returns c =
    let here = (goal.at.returns c).Else-not-subtract_sends in
    let x = ends_printed c.requires c.args.page.now (within here) c.count_traffic.ensures c.if-page-size.false in
    record { answer = x.0; bytes = c.put_page.ensures ∙ x.1 }
