use native.Mathlib.Omega.{arith}
use Rattle.groups.proofs.Noting.{roots-none, roots-helper, roots-root}
use Rattle.groups.proofs.distance.root_distances.Goals.{else-helpands-k, then-helpands-k}
use Rattle.groups.proofs.distance.root_distances.Goals as goal

pub loop-k-init : goal.loop-k-init
loop-k-init c = roots-none c.requires

pub loop-k-preserved : goal.loop-k-preserved
loop-k-preserved c = elim c.if-helpands-k.branch [
  | then-helpands-k w ↦ rw w.known-is (roots-root c.loop-k.invariant (omega (arith, c.requires, c.loop-k-test.true)) w.if-helpands-k.true)
  | else-helpands-k w ↦ rw w.known-is (roots-helper c.loop-k.invariant w.if-helpands-k.false)
]
