-- `traffic::page::put_node` meets its contract: the node in its two columns, and what stands behind it. Assumes nothing.
use native.Mathlib.Omega.{arith}
use Rattle.text.specs.Text.{decimal}
use Rattle.text.proofs.Columns.{length_aligned}
use Rattle.text.proofs.Writing.{wrote_then}
use Rattle.traffic.proofs.Lines.{node_short, line-is}
use Rattle.traffic.proofs.page.put_node.Goals as goal

pub right-requires : goal.right-requires
right-requires c = record { short = node_short c.args.node c.requires.low; room = omega (arith, c.requires.room) }

pub put_amounts-requires : goal.put_amounts-requires
put_amounts-requires c =
    let k = c.args.node in
    omega (arith, length_aligned 2 (decimal k) (node_short k c.requires.low), c.requires.room)

pub returns : goal.returns
returns c =
    let v = c.args in
    rw (line-is (decimal v.node) v.sent v.received) (wrote_then c.right.ensures c.put_amounts.ensures)
