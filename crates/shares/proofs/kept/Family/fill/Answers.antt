-- `Family::fill` meets its contract: the rooms are those of the spaces and amounts, so the level form is what is to be filled in.
-- Assumes nothing.
use Rattle.shares.proofs.Families.{level-noted}
use Rattle.shares.proofs.kept.Family.fill.Goals as goal

pub returns : goal.returns
returns c =
    let a = c.args in
    level-noted a.self.now a.kept.own a.kept.rest a.shares.now _ c.lowest-reached.result.level c.lowest-reached.result.left
    c.room-own.ensures.0 c.lowest-reached.ensures.0 c.lowest-reached.ensures.1 c.spread.ensures
