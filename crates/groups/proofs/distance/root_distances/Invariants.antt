-- `groups::distance::root_distances` meets its contract: the roots passed are known. Assumes nothing.
use Rattle.arrays.specs.Arrays.{at}
use Rattle.groups.proofs.Noting.{RootsKnown}
use Rattle.groups.proofs.distance.root_distances.Given as goal

abbrev pub invariant-loop-k : goal.invariant-loop-k
invariant-loop-k l = RootsKnown l.nodes (at l.helpands) l.k l.known
