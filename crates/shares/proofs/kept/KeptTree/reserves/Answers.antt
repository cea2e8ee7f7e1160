-- `KeptTree::reserves` meets its contract. Assumes nothing.
use mathlib.Core.Path.{sym, ◌∙◌}
use Rattle.shares.proofs.Dividing.{holds-reserves, leasts-reserves}
use Rattle.shares.proofs.kept.KeptTree.reserves.Goals as goal

pub returns-then-affords : goal.returns-then-affords
returns-then-affords c = holds-reserves c.args.self.now c.args.share c.args.n (sym c.affords.ensures ∙ c.if-affords.true)

pub returns-else-affords : goal.returns-else-affords
returns-else-affords c k l = leasts-reserves c.args.self.now c.args.share c.args.n (sym c.affords.ensures ∙ c.if-affords.false) k
