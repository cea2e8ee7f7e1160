-- `hold::holds` meets its contract: after k turns the array has the holds of the first k nodes. Assumes nothing.
use mathlib.Core.Path.{◌≡◌}
use lib.ListN.{length}
use Rattle.shares.specs.Hold.{holds_of}
use Rattle.shares.proofs.hold.holds.Given as goal

abbrev pub invariant-loop-k : goal.invariant-loop-k
invariant-loop-k l = (length l.out ≡ 64) × (l.out ≡ holds_of l.k l.limit l.leasts l.table)
