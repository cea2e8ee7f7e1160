-- `rebuild::turn` meets its contract: the stores are those of the definition. Assumes nothing.
use borrow.Author.Rules.{rules}
use Rattle.rebuild.specs.Rebuild.{turn_of}
use Rattle.rebuild.proofs.turn.Goals as goal

pub returns : goal.returns
unfolding turn_of
returns c = search rules
