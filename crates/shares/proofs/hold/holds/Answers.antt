use mathlib.Core.Path.{refl, sym}
use native.Mathlib.Omega.{arith}
use lib.ListN.{length-set}
use Rattle.arrays.specs.Arrays.{at}
use Rattle.arrays.proofs.Tabulate.{tabulate-none, tabulate-next}
use Rattle.sheet.specs.Table.{held}
use Rattle.shares.specs.Hold.{hold}
use Rattle.shares.proofs.hold.holds.Goals as goal

pub loop-k-preserved : goal.loop-k-preserved
loop-k-preserved c =
    let a = c.args in (
      simp length-set c.loop-k.invariant.0,
      tabulate-next (hold a.limit (at a.leasts.now) (held a.table.now)) c.loop-k.k c.hold.result c.loop-k.out (omega arith)
          c.loop-k.invariant.1 c.hold.ensures,
    )

pub loop-k-init : goal.loop-k-init
loop-k-init c = (refl, sym (tabulate-none _))
