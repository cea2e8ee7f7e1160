-- `groups::put_entries` meets its contract: the entries of the nodes passed are stored. Assumes nothing.
use mathlib.Core.Path.{◌≡◌}
use Rattle.arrays.specs.Arrays.{at}
use Rattle.groups.specs.Group.{group_in}
use Rattle.groups.specs.Inner.{with_entries}
use Rattle.groups.proofs.put_entries.Given as goal

abbrev pub invariant-loop-k : goal.invariant-loop-k
invariant-loop-k l = l.out ≡ with_entries l.nodes (group_in l.nodes (at l.helpands)) l.k l.initial.out
