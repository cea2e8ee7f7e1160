-- `groups::distance::note_chain` meets its contract: the nodes passed are noted. Assumes nothing.
use Rattle.arrays.specs.Arrays.{at}
use Rattle.groups.specs.Colour.{distance}
use Rattle.groups.proofs.Noting.{Noting}
use Rattle.groups.proofs.distance.note_chain.Given as goal

abbrev pub invariant-loop-known : goal.invariant-loop-known
invariant-loop-known l = Noting l.nodes (at l.helpands) l.k l.initial.known l.known l.node l.left

abbrev pub decreases-loop-known : goal.decreases-loop-known
decreases-loop-known l = distance l.nodes (at l.helpands) l.node
