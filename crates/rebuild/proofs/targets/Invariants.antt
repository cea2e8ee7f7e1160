-- `rebuild::targets` meets its contract: at the loop's head the array holds the targets of the nodes passed. Assumes nothing.
use mathlib.Core.Path.{◌≡◌}
use Rattle.arrays.specs.Arrays.{tabulate}
use Rattle.rebuild.specs.Target.{target_of}
use Rattle.rebuild.proofs.targets.Given as goal

abbrev pub invariant-loop-k : goal.invariant-loop-k
invariant-loop-k l = l.out ≡ tabulate l.k (target_of l.nodes l.p)
