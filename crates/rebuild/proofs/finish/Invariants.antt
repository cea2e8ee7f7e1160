-- `rebuild::finish` meets its contract: at the loop's head the arrays hold the new helpands and shares of the nodes passed. Assumes
-- nothing.
use mathlib.Core.Path.{◌≡◌}
use Rattle.arrays.specs.Arrays.{tabulate}
use Rattle.rebuild.specs.Rebuild.{lowest_in_b, new_helpand, new_share}
use Rattle.rebuild.proofs.finish.Given as goal
use Rattle.std.specs.Prelude.{Some}

abbrev pub invariant-loop-k : goal.invariant-loop-k
invariant-loop-k l = record {
  root : lowest_in_b l.nodes l.s.loads l.s.targets l.s.finished ≡ Some l.root;
  helpands : l.helpands ≡ tabulate l.k (new_helpand l.s l.root);
  shares : l.shares ≡ tabulate l.k (new_share l.s);
}
