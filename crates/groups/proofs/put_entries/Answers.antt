use Rattle.arrays.specs.Arrays.{at}
use Rattle.groups.specs.Group.{group_in}
use Rattle.groups.proofs.Placing.{entries_none, entries-stored}
use Rattle.groups.proofs.put_entries.Goals as goal

pub loop-k-init : goal.loop-k-init
loop-k-init c = entries_none c.args.nodes (group_in c.args.nodes (at c.args.helpands.now)) c.args.out.now

pub loop-k-preserved : goal.loop-k-preserved
loop-k-preserved c =
    let a = c.args in
    let e = c.entries_of-entries.ensures in
    let x = entries-stored a.nodes (group_in a.nodes (at a.helpands.now)) c.loop-k.k a.out.now
    c.loop-k-test.true c.loop-k.invariant e.0 e.1 c.put_word.ensures c.put_word-in-loop-k.ensures in
    x.0
