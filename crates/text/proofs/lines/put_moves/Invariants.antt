-- `text::lines::put_moves` meets its contract: after so many turns the lines of as many moves are written. Assumes nothing.
use lib.ListN.{length}
use Rattle.text.specs.Text.{moves_text}
use Rattle.text.specs.Writer.{Wrote}
use Rattle.text.proofs.lines.put_moves.Given as goal

abbrev pub invariant-loop-route : goal.invariant-loop-route
invariant-loop-route l = Wrote l.initial.w (moves_text (length l.yielded) l.routes l.counts) l.w
