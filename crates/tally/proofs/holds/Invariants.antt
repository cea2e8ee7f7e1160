-- `tally::holds` meets its contract: at the loop's head it is known of the nodes passed. Assumes nothing.
use mathlib.Core.Path.{◌≡◌}
use lib.Dec.{leb}
use Rattle.fold.specs.All.{all}
use Rattle.tally.specs.Layout.{least_at}
use Rattle.tally.proofs.holds.Given as goal

abbrev pub invariant-loop-least : goal.invariant-loop-least
invariant-loop-least l = l.fine ≡ all l.least-index (λ j. leb (least_at l.cells j) l.limit)
