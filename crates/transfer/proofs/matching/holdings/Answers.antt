use mathlib.Core.Path.{◌≡◌, sym}
use native.Mathlib.Omega.{arith}
use Rattle.arrays.proofs.Tabulate.{tabulate-none, tabulate-next}
use Rattle.transfer.proofs.matching.holdings.Invariants.{holds}
use Rattle.transfer.proofs.matching.holdings.Goals as goal

pub loop-k-init : goal.loop-k-init
loop-k-init c = sym (tabulate-none _)

pub loop-k-preserved : goal.loop-k-preserved
loop-k-preserved c =
    let a = c.args in
    tabulate-next (holds a.table.now a.n) c.loop-k.k c.held.result c.loop-k.holding (omega arith) c.loop-k.invariant
    c.held.ensures

pub returns : goal.returns
returns c =
    let e : c.loop-k.k ≡ c.args.nodes = omega arith in
    rw e at c.loop-k.invariant
