use mathlib.Core.Path.{refl, sym, ◌∙◌}
use native.Mathlib.Omega.{arith}
use lib.ListN.{replicate, get_or-replicate}
use Rattle.fold.proofs.Sums.{sum-none}
use Rattle.sheet.specs.Table.{held}
use Rattle.sheet.specs.Totals.{total_of}
use Rattle.arrays.proofs.Padded.{zeros-at}
use Rattle.arrays.proofs.Tabulate.{tabulate-is}
use Rattle.sheet.proofs.totals.totals.Goals as goal

pub loop-holder-init : goal.loop-holder-init
loop-holder-init c =
    let a = c.args in
    tabulate-is a.nodes (total_of 0 a.table.now) (omega arith) (replicate 64 0) refl
    (λ k l. get_or-replicate 64 k 0 0 (omega arith) ∙ sym (sum-none (λ j. held a.table.now j k)))
    (λ k l. zeros-at 64 k)
