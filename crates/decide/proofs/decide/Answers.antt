-- `decide::decide` meets its contract: each way out has its plan. Assumes nothing.
use borrow.Author.Rules.{rules}
use Rattle.decide.proofs.Ways.{way_primary, way_weighed, way_none}
use Rattle.decide.proofs.decide.Goals as goal

pub returns-then-is_primary : goal.returns-then-is_primary
returns-then-is_primary c =
    let a = c.args in
    way_primary a.nodes a.p a.limit a.table.now a.totals a.old a.tree c.is_primary.result
    c.is_primary.ensures c.if-is_primary.true _ (search rules)

pub returns-then-tree : goal.returns-then-tree
returns-then-tree c =
    let a = c.args in
    way_weighed a.nodes a.p a.limit a.table.now a.totals a.old a.tree c.is_primary.result
    c.is_primary.ensures c.if-is_primary.false c.if-tree.true _ (search rules)

pub returns-else-tree : goal.returns-else-tree
returns-else-tree c =
    let a = c.args in
    way_none a.nodes a.p a.limit a.table.now a.totals a.old a.tree c.is_primary.result
    c.is_primary.ensures c.if-is_primary.false c.if-tree.false _ (search rules)
