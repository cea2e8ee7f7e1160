-- `tree::links::helper_links` meets its contract: the nodes from k on are linked. Assumes nothing.
use Rattle.std.proofs.Common.{◌≡◌, length}
use Rattle.arrays.specs.Arrays.{at}
use Rattle.tree.proofs.Linking.{Linking, Onward}
use Rattle.tree.proofs.links.helper_links.Given as goal

abbrev pub invariant-loop-k : goal.invariant-loop-k
invariant-loop-k l = (length l.links ≡ 128) × Linking l.nodes (at l.helpands) l.k l.links × Onward l.nodes l.links
