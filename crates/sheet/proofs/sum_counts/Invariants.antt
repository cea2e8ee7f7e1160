-- `sheet::sum_counts` meets its contract: at the loop's head the whole answer is that of the counts that are left, from sum on.
-- Assumes nothing.
use mathlib.Core.Path.{◌≡◌}
use Prim.Native.Nat.{◌≤◌}
use lib.ListN.{drop}
use Rattle.limit.specs.Limit.{max_total}
use Rattle.sheet.specs.Sheet.{counts_of, running_sum}
use Rattle.sheet.proofs.sum_counts.Given as goal

abbrev pub invariant-loop-i : goal.invariant-loop-i
invariant-loop-i l =
    (l.sum ≤ max_total) × (running_sum 0 (counts_of l.s l.e) ≡ running_sum l.sum (drop l.i (counts_of l.s l.e)))
