-- `text::put::put_right` meets its contract: the columns before the last one from the right, and then the last one. Assumes nothing.
use Rattle.text.proofs.Columns.{Filling}
use Rattle.text.proofs.put.put_right.Given as goal

abbrev pub invariant-loop-i : goal.invariant-loop-i
invariant-loop-i l = Filling l.initial.out l.at l.last l.x l.out l.i l.rest
