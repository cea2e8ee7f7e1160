-- `archive::order::positions` meets its contract: the rule of the Z order is computed for each entry of the table and compared with it.
-- Assumes nothing.
use borrow.Author.Rules.{rules}
use Rattle.fold.specs.Sum.{sum}
use Rattle.archive.specs.ZOrder.{position, position_of}
use Rattle.archive.proofs.Listed.{listed}
use Rattle.archive.proofs.order.positions.Goals as goal

pub returns : goal.returns
unfolding position sum
returns c k h = search (rules, listed position_of)
