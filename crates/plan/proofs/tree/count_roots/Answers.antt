use borrow.Author.Rules.{rules}
use borrow.Author.Tests.{eq-eqb, ne_eqb}
use mathlib.Core.Path.{sym}
use native.Mathlib.Omega.{arith}
use Rattle.fold.specs.Sum.{only}
use Rattle.fold.proofs.Tests.{only-is, only-not}
use Rattle.fold.proofs.Sums.{sum-none, sum_more}
use Rattle.plan.specs.Tree.{is_root}
use Rattle.arrays.specs.Arrays.{at}
use Rattle.plan.proofs.tree.count_roots.Goals.{else-helpands-k, then-helpands-k}
use Rattle.plan.proofs.tree.count_roots.Goals as goal

pub loop-k-preserved : goal.loop-k-preserved
loop-k-preserved c =
    let h = at c.args.helpands in
    let k = c.loop-k.k in
    elim c.if-helpands-k.branch [
      | then-helpands-k w ↦ omega (arith, sum_more k (λ j. only (is_root h j) 1), only-is (is_root h k) 1 (eq-eqb (h k) k w.if-helpands-k.true))
      | else-helpands-k w ↦ omega (arith, sum_more k (λ j. only (is_root h j) 1), only-not (is_root h k) 1 (ne_eqb (h k) k w.if-helpands-k.false))
    ]

pub loop-k-init : goal.loop-k-init
loop-k-init c = (search rules, sym (sum-none _))
