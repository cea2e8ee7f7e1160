use borrow.Author.Rules.{rules}
use borrow.Author.Tests.{ltb-true}
use mathlib.Core.Path.{refl, sym, ap, ◌∙◌}
use native.Mathlib.Omega.{arith}
use Rattle.fold.proofs.Tests.{all_none, all_more, all_fails, all-at}
use Rattle.plan.specs.Inner.{checked_of}
use Rattle.plan.proofs.Chains.{reaches-root, reaches-none, reaches_step}
use Rattle.plan.proofs.tree.check_chains.Goals as goal

pub steps-preserved : goal.steps-preserved
steps-preserved c = (
  ltb-true _ _ (all-at _ _ c.requires.1 c.steps.here c.steps.invariant.0),
  search rules,
  c.steps.invariant.2 ∙ reaches_step _ _ _ c.if-next-here.false (λ e. omega (arith, e)),
  c.steps.invariant.3,
)

pub nodes-preserved : goal.nodes-preserved
nodes-preserved c =
    (all_more _ _ c.nodes.invariant.0 (c.steps.invariant.2 ∙ reaches-root _ _ _ c.if-next-here.true), c.steps.invariant.3)

pub returns-then-left-eq0 : goal.returns-then-left-eq0
returns-then-left-eq0 c =
    ap checked_of
    (sym (all_fails _ _ _ c.nodes-test.true
    (c.steps.invariant.2 ∙ reaches-none _ _ _ c.if-next-here.false c.if-left-eq0.true)))

pub nodes-init : goal.nodes-init
nodes-init c = (all_none _, refl)
