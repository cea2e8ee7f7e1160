-- `groups::distance::distances` meets its contract: the distances of the nodes passed are known. Assumes nothing.
use mathlib.Core.Logic.{◌≢◌}
use Prim.Native.Nat.{ℕ, ◌<◌}
use Rattle.arrays.specs.Arrays.{at}
use Rattle.groups.specs.Inner.{Known, unknown}
use Rattle.groups.proofs.distance.distances.Given as goal

abbrev pub invariant-loop-k : goal.invariant-loop-k
invariant-loop-k l = Known l.nodes (at l.helpands) l.known × ((j : ℕ) → j < l.k → at l.known j ≢ unknown)
