-- `plan::tree::check_shape` meets its contract, each way out by the tests on it. Assumes nothing.
use mathlib.Core.Path.{sym, ◌∙◌}
use borrow.Author.Tests.{eq-eqb}
use Rattle.arrays.specs.Arrays.{at}
use Rattle.plan.proofs.Trees.{roots-all, roots-not-all}
use Rattle.plan.proofs.tree.check_shape.Goals as goal

pub returns-then-roots-nodes : goal.returns-then-roots-nodes
returns-then-roots-nodes c =
    simp (eq-eqb _ _ c.if-kind-eq0.true, roots-all _ (at c.args.helpands) (sym c.count_roots-roots.ensures ∙ c.if-roots-nodes.true))

pub returns-then-kind-eq0 : goal.returns-then-kind-eq0
returns-then-kind-eq0 c =
    simp
    (eq-eqb _ _ c.if-kind-eq0.true, roots-not-all _ (at c.args.helpands) (λ e. c.if-roots-nodes.false (c.count_roots-roots.ensures ∙ e)))
