-- `Helpers::leasts` meets its contract: every chain comes to the root, so the pass down from there leaves every least.
-- Assumes nothing.
use borrow.Author.Rules.{rules}
use Rattle.arrays.specs.Arrays.{at}
use Rattle.tree.proofs.Weighing.{root_shallow}
use Rattle.tree.proofs.Passing.{descended_root}
use Rattle.tree.proofs.links.Helpers.leasts.Goals as goal

pub least-requires : goal.least-requires
least-requires c =
    let a = c.args in
    let t = c.requires in
    ((a.root, t), t.root, root_shallow a.self.now.nodes (at a.self.now.helpands.now) t)

pub returns : goal.returns
returns c =
    descended_root c.requires c.args.self.now.few (search rules) c.least.ensures.1
