use mathlib.Core.Path.{◌≡◌}
use native.Mathlib.Omega.{arith}
use Rattle.fold.proofs.Lists.{collect-none, collect_more}
use Rattle.arrays.specs.Arrays.{at}
use Rattle.text.proofs.Writing.{wrote_none, wrote_then}
use Rattle.traffic.proofs.Lines.{length-nodes}
use Rattle.traffic.proofs.page.put_nodes.Goals as goal

pub loop-k-init : goal.loop-k-init
loop-k-init c = rw collect-none (wrote_none c.args.w.now)

pub put_node-requires-clause-room : goal.put_node-requires-clause-room
put_node-requires-clause-room c =
    let a = c.args in
    omega (arith, length-nodes c.loop-k.k (at a.sent) (at a.received) (omega arith))

pub loop-k-preserved : goal.loop-k-preserved
loop-k-preserved c = rw collect_more (wrote_then c.loop-k.invariant c.put_node.ensures)

pub returns : goal.returns
returns c =
    let e : c.loop-k.k ≡ c.args.nodes = omega arith in
    rw e at c.loop-k.invariant
