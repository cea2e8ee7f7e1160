-- `groups::distance::distance` meets its contract: what is left of the distance is that of the node reached. Assumes nothing.
use mathlib.Core.Path.{◌≡◌}
use Prim.Native.Nat.{◌+◌, ◌<◌}
use Rattle.arrays.specs.Arrays.{at}
use Rattle.groups.specs.Colour.{distance}
use Rattle.groups.proofs.distance.distance.Given as goal

abbrev pub invariant-loop-node : goal.invariant-loop-node
invariant-loop-node l =
    (l.node < l.nodes) × (distance l.nodes (at l.helpands) l.k ≡ l.steps + distance l.nodes (at l.helpands) l.node)

abbrev pub decreases-loop-node : goal.decreases-loop-node
decreases-loop-node l = distance l.nodes (at l.helpands) l.node
