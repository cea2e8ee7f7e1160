-- `transfer::due::due_amounts` meets its contract: after k turns the array holds the due amounts of the first k nodes. Assumes
-- nothing.
use mathlib.Core.Path.{◌≡◌}
use Rattle.arrays.specs.Arrays.{at, tabulate}
use Rattle.transfer.specs.Due.{due_with}
use Rattle.transfer.proofs.due.due_amounts.Given as goal

abbrev pub invariant-loop-k : goal.invariant-loop-k
invariant-loop-k l =
    l.due ≡ tabulate l.k (due_with (at l.helpands) (at l.shares) l.own l.n)
