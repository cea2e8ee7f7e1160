use mathlib.Core.Path.{refl}
use native.Mathlib.Omega.{arith}
use Rattle.shares.proofs.Summing.{summed_first, summed_next}
use Rattle.shares.proofs.kept.KeptTree.members.Goals as goal

pub loop-k-init : goal.loop-k-init
loop-k-init c =
    let x = c.first-k.ensures c.requires in
    (summed_first refl x, summed_first refl x, omega arith, omega arith)

pub loop-k-preserved : goal.loop-k-preserved
loop-k-preserved c =
    let v = c.loop-k.invariant in
    let x = c.next-k.ensures.next c.args.n c.loop-k-test.true (v.0.helper c.loop-k-test.true) in (
      summed_next v.0 c.loop-k-test.true c.from-holds.ensures x,
      summed_next v.1 c.loop-k-test.true refl x,
      omega (arith, v.2, x.from_le),
      omega (arith, v.3, x.from_le),
    )
