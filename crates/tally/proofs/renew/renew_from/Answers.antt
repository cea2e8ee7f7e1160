use mathlib.Core.Path.{◌≡◌, sym, ◌∙◌}
use Prim.Native.Nat.{suc, ◌+◌, ◌-◌}
use native.Mathlib.Omega.{arith}
use Rattle.tally.proofs.Renewing.{renewed-none, renewed-same, renewed-root, renewed_up}
use Rattle.tally.proofs.renew.renew_from.Goals as goal

pub returns-then-least-cells : goal.returns-then-least-cells
returns-then-least-cells c =
    sym (renewed-same _ _ _ _ _ _ c.least_from-least.ensures c.if-least-cells.true) ∙ c.loop.invariant.1

pub returns-then-helpand-n : goal.returns-then-helpand-n
returns-then-helpand-n c =
    sym (renewed-root _ _ _ _ _ _ c.least_from-least.ensures c.if-least-cells.false c.if-helpand-n.true) ∙ c.loop.invariant.1

pub loop-preserved : goal.loop-preserved
loop-preserved c =
    let l = c.loop in
    let fewer : suc (c.args.helpers.now.nodes - (l.counter + 1)) ≡ c.args.helpers.now.nodes - l.counter = omega arith in (
      c.args.helpers.now.inside l.n l.invariant.0,
      rw fewer (sym (renewed_up _ _ _ _ _ _ c.least_from-least.ensures c.if-least-cells.false c.if-helpand-n.false) ∙ l.invariant.1),
    )

pub returns-else-helpand-n : goal.returns-else-helpand-n
returns-else-helpand-n c =
    let l = c.loop in
    let none : c.args.helpers.now.nodes - l.counter ≡ 0 = omega arith in
    let up = renewed_up _ _ _ _ _ 0 c.least_from-least.ensures c.if-least-cells.false c.if-helpand-n.false in
    sym (up ∙ renewed-none _ _ _ _ _) ∙ (rw none at l.invariant.1)
