use mathlib.Core.Path.{◌≡◌, ap, ◌∙◌}
use mathlib.Core.List.{List}
use Prim.Native.Nat.{ℕ, ◌+◌, ◌-◌, ◌*◌, ◌≤◌, ◌<◌}
use native.Mathlib.Nat.{le_refl, mul-le-mul}
use native.Mathlib.Omega.{arith}
use lib.ListN.{length}
use Rattle.arrays.specs.Arrays.{at}
use Rattle.sheet.specs.Table.{held}
use Rattle.tree.specs.Division.{own_of}
use Rattle.transfer.specs.List.{routes_in}
use Rattle.transfer.specs.Due.{due_with, due_of}
use Rattle.transfer.specs.Matching.{moves_between, subdomain_moves}
use Rattle.transfer.proofs.Subdomains.{moves-eq, few-all, written_none, written_more, all-routes-eq, all-counts-eq}
use Rattle.arrays.proofs.Tabulate.{tabulate-at, tabulate-behind}
use Rattle.sheet.specs.Totals.{total_of}
use Rattle.transfer.proofs.matching.list_moves.Invariants.{dues}
use Rattle.transfer.proofs.matching.list_moves.Goals as goal

pub loop-n-init : goal.loop-n-init
loop-n-init c = written_none _ _ _ c.requires.3 c.requires.4

-- there is room for one more subdomain
pub put_subdomain-requires : goal.put_subdomain-requires
put_subdomain-requires c =
    let l = c.loop-n in
    let a = c.args in
    let d = dues a.helpands a.shares c.own_amounts-own.result in
    let up : l.n + 1 ≤ a.nodes = omega arith in
    let small : a.nodes - 1 ≤ 63 = omega arith in
    let few : length (routes_in l.moves) ≤ l.n * (a.nodes - 1) = rw l.invariant.routes_are (few-all a.nodes a.table.now d l.n) in
    (c.requires.0, c.loop-n-test.true, omega (arith, few, mul-le-mul up (le_refl (a.nodes - 1)), mul-le-mul c.requires.0 small))

pub loop-n-preserved : goal.loop-n-preserved
loop-n-preserved c =
    let l = c.loop-n in
    let a = c.args in
    let d = dues a.helpands a.shares c.own_amounts-own.result in
    let put = c.put_subdomain.ensures in
    let holding : ℕ → ℕ = λ k. held a.table.now k l.n in
    let moves = moves_between a.nodes (at c.holdings-holding.result) (at c.due_amounts-due.result) in
    let same : moves ≡ subdomain_moves a.nodes a.table.now d l.n =
    moves-eq a.nodes (at c.holdings-holding.result) (at c.due_amounts-due.result) holding (d l.n)
    (λ k b. ap (λ (xs : List ℕ). at xs k) c.holdings-holding.ensures ∙ tabulate-at a.nodes holding k b)
    (λ k b. ap (λ (xs : List ℕ). at xs k) c.due_amounts-due.ensures ∙ tabulate-at a.nodes (d l.n) k b) in
    written_more a.nodes a.table.now d l.invariant moves same put.routes put.counts

pub returns : goal.returns
returns c =
    let l = c.loop-n in
    let a = c.args in
    let own = c.own_amounts-own in
    let h = at a.helpands in
    let share = at a.shares in
    let d = dues a.helpands a.shares own.result in
    let d' = due_of a.nodes h (at a.totals) share in
    let same : (n : ℕ) → n < a.nodes → d n ≡ d' n =
    λ n b. ap (λ (x : ℕ). due_with h share x n)
    (ap (λ (xs : List ℕ). at xs n) own.ensures ∙ tabulate-at a.nodes (own_of a.nodes h (at a.totals) share) n b) in
    let e : l.n ≡ a.nodes = omega arith in
    let all = rw e at l.invariant in record {
      routes = all.routes_are ∙ all-routes-eq a.nodes a.table.now d d' same;
      counts = all.counts_are ∙ all-counts-eq a.nodes a.table.now d d' same;
    }

-- the totals end where the nodes do
pub own_amounts-own-requires : goal.own_amounts-own-requires
own_amounts-own-requires c =
    let a = c.args in
    let p = c.requires in
    (p.0, p.2, λ k b. ap (λ (xs : List ℕ). at xs k) p.1 ∙ tabulate-behind a.nodes (total_of a.nodes a.table.now) k b)
