use Rattle.std.proofs.Common.{◌≡◌, arith}
use Rattle.arrays.specs.Arrays.{at}
use Rattle.sheet.specs.Table.{held}
use Rattle.tree.specs.Down.{Descends}
use Rattle.tree.proofs.Weighing.{shallow_some, shallow_helper}
use Rattle.tree.proofs.Passing.{passed_none, passed-next, passed-helper, passed-all}
use Rattle.shares.specs.Inner.{nodes_of, helpand_of, amounts_in, share_in}
use Rattle.shares.specs.declared.kept.KeptTree.{KeptTree}
use Rattle.shares.proofs.Noting.{noted-right, descended_after}
use Rattle.shares.proofs.KeptShares.{shares_described}
use Rattle.shares.proofs.kept.KeptTree.+divide_below.Goals as goal

-- the family of n is divided as the whole tree is
described : (t : KeptTree) → Descends (nodes_of t) (helpand_of t) (amounts_in t) (share_in t)
described t = shares_described (nodes_of t) (helpand_of t) t.limit (at t.leasts.now) (at t.totals.now) (held t.table.now) t.root t.rooted

-- the depth is not used up
pub returns-then-depth-eq0 : goal.returns-then-depth-eq0
returns-then-depth-eq0 t c = absurd (shallow_some _ _ _ _ c.requires.1 c.if-depth-eq0.true)

-- n has no helpers
pub returns-then-k-self : goal.returns-then-k-self
returns-then-k-self t c =
    let x = rw c.if-k-self.true at (c.first-k.ensures c.requires.0) in
    passed-all c.args.self.now.rooted (passed-next passed_none x) c.requires.2

pub divide_below-requires : goal.divide_below-requires
divide_below-requires t c =
    let p = c.requires in
    let k = c.loop-k.k in
    let b = c.loop-k-test.true in
    let v = c.loop-k.invariant in
    let n = noted-right (described c.args.self.now) p.2 c.divide_family.ensures in (
      omega (arith, c.decreases, shallow_some _ _ _ _ p.1),
      (b, shallow_helper _ _ _ _ p.1 k b (v.helper b), v.passed.kept k b (n.0 k b (v.helper b))),
    )

pub loop-k-preserved : goal.loop-k-preserved
loop-k-preserved t c =
    let v = c.loop-k.invariant in
    let x = c.next-k.ensures.next c.args.n c.loop-k-test.true (v.helper c.loop-k-test.true) in
    record { k_le = x.to_le; helper = x.passes; passed = passed-next (passed-helper v.passed c.divide_below.ensures) x }

pub returns : goal.returns
returns t c =
    let a = c.args in
    let p = c.requires in
    let v = c.loop-k.invariant in
    let e : c.loop-k.k ≡ nodes_of a.self.now = omega (arith, v.k_le) in
    let n = noted-right (described a.self.now) p.2 c.divide_family.ensures in
    let own = v.passed.kept a.n p.0 (n.1.kept a.n p.0 p.2) in
    descended_after n.1 (passed-all a.self.now.rooted (rw e at v.passed) own)
