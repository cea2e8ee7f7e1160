use mathlib.Core.Path.{◌≡◌, refl, sym}
use native.Mathlib.Omega.{arith}
use Rattle.arrays.proofs.Tabulate.{tabulate-none, tabulate-next}
use Rattle.decide.proofs.own_numbers.Goals as goal

pub loop-k-init : goal.loop-k-init
loop-k-init c = sym (tabulate-none _)

pub loop-k-preserved : goal.loop-k-preserved
loop-k-preserved c = tabulate-next (λ j. j) c.loop-k.k c.loop-k.k c.loop-k.out (omega arith) c.loop-k.invariant refl

pub returns : goal.returns
returns c =
    let e : c.loop-k.k ≡ c.args.nodes = omega arith in
    rw e at c.loop-k.invariant
