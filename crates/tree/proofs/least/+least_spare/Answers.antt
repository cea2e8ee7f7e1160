use borrow.Author.Rules.{rules}
use Rattle.std.proofs.Common.{◌≡◌, ℕ, ◌-◌, ◌≤◌, ◌<◌, List, arith, refl, sym, ap, ◌∙◌}
use lib.ListN.{set}
use Rattle.plan.specs.Tree.{Tree}
use Rattle.tree.specs.Least.{least}
use Rattle.tree.specs.Inner.{Descended}
use Rattle.tree.proofs.Linking.{left-first, left-next, left-all}
use Rattle.tree.proofs.Weighing.{shallow_some, shallow_helper, least-is}
use Rattle.tree.proofs.Passing.{passed_none, passed-next, passed-helper, passed_store}
use Rattle.tree.proofs.least.+least_spare.Invariants.{WeighedSoFar}
use Rattle.tree.proofs.least.+least_spare.Goals as goal

-- what is left is the least of n, which is stored
ends : {nodes : ℕ} {h total : ℕ → ℕ} {limit n : ℕ} {before out : List ℕ} {left k : ℕ} → nodes ≤ 64 → (r : ℕ) × Tree nodes h r → n < nodes
    → WeighedSoFar nodes h total limit n before out left k → nodes ≤ k
    → (left ≡ least nodes h total limit n) × Descended nodes h (least nodes h total limit) n before (set out n left)
ends {nodes} {h} {total} {limit} {n} {left = left} few t l v b =
    let e = left-all v.spared b in
    let q = e.1 ∙ sym (least-is nodes h total limit t.0 t.1 n) in
    (q, passed_store t.1 l (omega (arith, v.long, few)) (rw e.0 at v.passed) left q)

-- the depth is not used up
pub least-returns-then-depth-eq0 : goal.least-returns-then-depth-eq0
least-returns-then-depth-eq0 t c = absurd (shallow_some _ _ _ _ c.requires.2 c.if-depth-eq0.true)

pub least-loop-k-init : goal.least-loop-k-init
least-loop-k-init t c =
    let p = c.requires in
    let x = c.first-k.ensures p.1 in
    record { long = search rules; spared = left-first refl x; passed = passed-next passed_none x }

pub least-spare-spared-requires : goal.least-spare-spared-requires
least-spare-spared-requires t c =
    let p = c.requires in
    let b = c.loop-k-test.true in
    let helper = c.loop-k.invariant.spared.helper b in (
      omega (arith, c.decreases, shallow_some _ _ _ _ p.2),
      (p.0, b, shallow_helper _ _ _ _ p.2 c.loop-k.k b helper),
    )

pub least-loop-k-preserved : goal.least-loop-k-preserved
least-loop-k-preserved t c =
    let v = c.loop-k.invariant in
    let s = c.spare-spared.ensures in
    let test = c.loop-k-test.true in
    let x = c.next-k.ensures.next c.args.n test (v.spared.helper test) in
    record {
      long = search rules;
      spared = left-next v.spared test (c.saturating_sub-left.ensures ∙ ap (λ (y : ℕ). c.loop-k.left - y) s.0) x;
      passed = passed-next (passed-helper v.passed s.1) x;
    }

pub least-returns : goal.least-returns
least-returns t c = ends c.args.helpers.now.few c.requires.0 c.requires.1 c.loop-k.invariant c.loop-k-test.false
