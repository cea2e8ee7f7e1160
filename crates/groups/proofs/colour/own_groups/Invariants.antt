-- `groups::colour::own_groups` meets its contract: the names as far as the helpers passed. Assumes nothing.
use mathlib.Core.Path.{◌≡◌}
use lib.ListN.{length}
use Rattle.arrays.specs.Arrays.{at}
use Rattle.groups.proofs.Owners.{Owning}
use Rattle.groups.proofs.colour.own_groups.Given as goal

abbrev pub invariant-loop-k : goal.invariant-loop-k
invariant-loop-k l = (length l.own ≡ 64) × Owning l.nodes (at l.helpands) l.k l.own
