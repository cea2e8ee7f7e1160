-- `tally::check_call` meets its contract: the tests that look at no counts, and then the amounts. Assumes nothing.
use mathlib.Core.Path.{sym, ◌∙◌}
use Rattle.tally.proofs.Calling.{number-unnamed, number-amounts}
use Rattle.tally.proofs.check_call.Goals as goal

pub returns-then-not-is_named : goal.returns-then-not-is_named
returns-then-not-is_named c = number-unnamed _ _ _ _ _ _ (sym c.is_named.ensures ∙ c.if-not-is_named.true)

pub returns : goal.returns
returns c =
    let e = rw c.cell.ensures at c.check_amounts.ensures in
    e ∙ number-amounts _ _ _ _ _ _ (sym c.is_named.ensures ∙ c.if-not-is_named.false)
