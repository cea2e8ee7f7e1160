use mathlib.Core.Path.{refl, ap, ◌∙◌}
use Prim.Native.Nat.{ℕ, ◌-◌}
use native.Mathlib.Omega.{arith}
use Rattle.tree.proofs.Linking.{left-first, left-next, left-all}
use Rattle.tally.proofs.renew.least_from.Goals as goal

-- what helper k spares is taken
pub loop-k-preserved : goal.loop-k-preserved
loop-k-preserved c =
    let l = c.loop-k in
    left-next l.invariant c.loop-k-test.true (c.saturating_sub-left.ensures ∙ ap (λ (x : ℕ). l.left - x) c.saturating_sub.ensures)
    (c.next-k.ensures.next c.args.n c.loop-k-test.true (l.invariant.helper c.loop-k-test.true))

pub loop-k-init : goal.loop-k-init
loop-k-init c = left-first refl (c.first-k.ensures c.requires)

pub loop-k-smaller : goal.loop-k-smaller
loop-k-smaller c = omega (arith, c.next-k.ensures.on c.loop-k-test.true)

pub returns : goal.returns
returns c = (left-all c.loop-k.invariant c.loop-k-test.false).1
