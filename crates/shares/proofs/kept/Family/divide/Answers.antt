-- `Family::divide` meets its contract: the amounts are those of the rest that was worked out, or of what is kept if there is none.
-- Assumes nothing.
use mathlib.Core.Path.{sym, ◌∙◌}
use Rattle.shares.proofs.Families.{kept_somewhere, kept-noted, filled-noted}
use Rattle.shares.proofs.kept.Family.divide.Goals as goal

pub returns-then-kept-eq0 : goal.returns-then-kept-eq0
returns-then-kept-eq0 c =
    let k = c.keep-kept.ensures in
    kept-noted c.args.self.now c.args.shares.now _ k.3 (sym k.1 ∙ c.if-kept-eq0.true)

pub fill-requires : goal.fill-requires
fill-requires c =
    let k = c.keep-kept.ensures in
    kept_somewhere c.args.self.now c.args.shares.now _ k.3 k.0 k.2

pub returns : goal.returns
returns c =
    let k = c.keep-kept.ensures in
    filled-noted c.args.self.now c.args.shares.now _ k.3 k.0 k.1 c.fill.ensures
