use Rattle.plan.proofs.Trees.{tree-alone}
use Rattle.tree.proofs.least.find_root.Goals as goal

pub returns : goal.returns
returns c =
    let w = c.requires.1 in
    rw (tree-alone w.1 c.loop-node.node c.loop-node.invariant.0 c.loop-node-test.false) w.1
