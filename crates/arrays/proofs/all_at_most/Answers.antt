use mathlib.Core.Path.{◌≡◌}
use native.Mathlib.Numerals.{add-one}
use native.Mathlib.Omega.{arith}
use Rattle.fold.specs.All.{all}
use Rattle.arrays.proofs.all_at_most.Goals as goal

pub loop-k-init : goal.loop-k-init
unfolding all
loop-k-init c = search

pub loop-k-preserved : goal.loop-k-preserved
unfolding all
loop-k-preserved c = rw add-one cc

pub returns : goal.returns
returns c =
    let e : c.loop-k.k ≡ c.args.nodes = omega arith in
    rw e at c.loop-k.invariant
