-- `text::lines::put_nodes` meets its contract: after k turns the lines of the nodes below k are written. Assumes nothing.
use Rattle.text.specs.Text.{nodes_text}
use Rattle.text.specs.Writer.{Wrote}
use Rattle.text.proofs.lines.put_nodes.Given as goal

abbrev pub invariant-loop-k : goal.invariant-loop-k
invariant-loop-k l = Wrote l.initial.w (nodes_text l.k l.helpands l.shares l.own) l.w
