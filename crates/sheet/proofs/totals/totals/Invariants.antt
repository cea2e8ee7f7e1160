-- `sheet::totals::totals` meets its contract: the array has the totals of what the holders passed have. Assumes nothing.
use mathlib.Core.Path.{◌≡◌}
use Rattle.sheet.specs.Totals.{total_of}
use Rattle.arrays.specs.Arrays.{tabulate}
use Rattle.sheet.proofs.totals.totals.Given as goal

abbrev pub invariant-loop-holder : goal.invariant-loop-holder
invariant-loop-holder l = l.out ≡ tabulate l.nodes (total_of l.holder l.table)
