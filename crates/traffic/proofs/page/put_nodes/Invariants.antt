-- `traffic::page::put_nodes` meets its contract: after k turns the lines of the nodes below k are written. Assumes nothing.
use Rattle.arrays.specs.Arrays.{at}
use Rattle.text.specs.Writer.{Wrote}
use Rattle.traffic.specs.Page.{node_lines}
use Rattle.traffic.proofs.page.put_nodes.Given as goal

abbrev pub invariant-loop-k : goal.invariant-loop-k
invariant-loop-k l = Wrote l.initial.w (node_lines l.k (at l.sent) (at l.received)) l.w
