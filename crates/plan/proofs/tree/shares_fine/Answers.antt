use mathlib.Core.Path.{sym}
use native.Mathlib.Omega.{arith}
use Rattle.fold.proofs.Tests.{all_none, all_more, all_fails}
use Rattle.plan.proofs.Shares.{share-over, share-root, share_fine_lem}
use Rattle.arrays.specs.Arrays.{at}
use Rattle.plan.proofs.tree.shares_fine.Goals as goal

pub loop-k-preserved : goal.loop-k-preserved
loop-k-preserved c =
    let a = c.args in
    all_more _ _ c.loop-k.invariant (share_fine_lem _ (at a.helpands) (at a.shares) _ c.if-limit-share.false (λ e. omega (arith, e)))

pub returns-then-limit-share : goal.returns-then-limit-share
returns-then-limit-share c =
    let a = c.args in
    sym (all_fails _ _ _ c.loop-k-test.true (share-over _ (at a.helpands) (at a.shares) _ c.if-limit-share.true))

pub returns-then-share-ne0 : goal.returns-then-share-ne0
returns-then-share-ne0 c =
    let a = c.args in
    sym (all_fails _ _ _ c.loop-k-test.true (share-root _ (at a.helpands) (at a.shares) _ c.if-helpands-k.true c.if-share-ne0.true))

pub loop-k-init : goal.loop-k-init
loop-k-init c = all_none _
