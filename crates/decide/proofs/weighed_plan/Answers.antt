-- `decide::weighed_plan` meets its contract: the test of the array of leasts is the definition's, and each way out has its plan.
-- Assumes nothing.
use lib.Dec.{leb}
use mathlib.Core.List.{List}
use mathlib.Core.Path.{◌≡◌, sym, ap, ◌∙◌}
use Prim.Native.Nat.{ℕ}
use Rattle.fold.specs.All.{all}
use Rattle.arrays.specs.Arrays.{at, tabulate}
use Rattle.plan.specs.declared.Kind.TheVariants.{Kept}
use Rattle.plan.proofs.Trees.{tree-below}
use Rattle.sheet.specs.Table.{held}
use Rattle.shares.specs.Shares.{kept_shares}
use Rattle.tree.specs.Least.{holds, least}
use Rattle.tree.proofs.Weighing.{holds_tabulated}
use Rattle.decide.specs.declared.Decision.{Decision}
use Rattle.decide.proofs.weighed_plan.Goals.{After-holds}
use Rattle.decide.proofs.weighed_plan.Goals as goal

tested : (c : After-holds) → holds c.args.nodes (at c.args.old) (at c.args.totals) c.args.limit ≡ c.holds.result
tested c =
    let a = c.args in
    let e = c.of-helpers.ensures in
    let is : c.leasts-leasts.result ≡ tabulate a.nodes (least a.nodes (at a.old) (at a.totals) a.limit) =
    rw (e.0, e.1) at c.leasts-leasts.ensures in
    sym (holds_tabulated a.nodes (at a.old) (at a.totals) a.limit)
    ∙ ap (λ (xs : List ℕ). all a.nodes (λ n. leb (at xs n) a.limit)) (sym is)
    ∙ sym c.holds.ensures

pub returns-then-holds : goal.returns-then-holds
returns-then-holds c =
    let a = c.args in
    let e = c.of-helpers.ensures in
    let kept : List ℕ → Decision = λ xs. record { kind = Kept; helpands = a.old; shares = xs } in
    let shares : List ℕ → List ℕ = λ xs. kept_shares a.nodes (at a.old) a.limit (at xs) (at a.totals) (held a.table.now) in
    let is : c.leasts-leasts.result ≡ tabulate a.nodes (least a.nodes (at a.old) (at a.totals) a.limit) =
    rw (e.0, e.1) at c.leasts-leasts.ensures in
    let given : c.kept_shares.result ≡ shares c.leasts-leasts.result = rw (e.0, e.1) at c.kept_shares.ensures in
    rw (tested (goal.at.returns-then-holds c).After-holds ∙ c.if-holds.true) (ap kept (given ∙ ap shares is))

pub returns : goal.returns
returns c = rw (tested (goal.at.returns c).After-holds ∙ c.if-holds.false) c.rebuilt_plan.ensures

pub of-helpers-requires : goal.of-helpers-requires
of-helpers-requires c = (c.requires.1, c.find_root-root.ensures.inside)

pub leasts-leasts-requires : goal.leasts-leasts-requires
leasts-leasts-requires c = rw (c.of-helpers.ensures.0, c.of-helpers.ensures.1) c.find_root-root.ensures

pub kept_shares-requires : goal.kept_shares-requires
kept_shares-requires c = rw (c.of-helpers.ensures.0, c.of-helpers.ensures.1) (c.find_root-root.ensures, c.requires.2)

pub rebuilt_plan-requires : goal.rebuilt_plan-requires
rebuilt_plan-requires c = let s = c.requires in (s.0, s.1, tree-below s.5.1, s.3, s.4)
