-- `tally::open` meets its contract: the refusal of both records, or what they give. Assumes nothing.
use mathlib.Core.Path.{◌∙◌}
use Rattle.tally.proofs.Opening.{ends_refused}
use Rattle.tally.proofs.open.Goals as goal

pub returns-in-Err : goal.returns-in-Err
returns-in-Err c =
    let x = ends_refused _ _ c.in-Err.r c.in-Err.ensures in
    (c.open_refused.ensures.0 ∙ x.0, c.open_refused.ensures.1 ∙ x.1)
