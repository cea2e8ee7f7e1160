use mathlib.Core.Path.{◌∙◌}
use Prim.Native.Nat.{ℕ, ◌<◌}
use native.Mathlib.Omega.{arith}
use lib.ListN.{length-set, length-replicate}
use Rattle.arrays.specs.Arrays.{at}
use Rattle.groups.proofs.Owners.{owning_none, owning_root, owning_helper}
use Rattle.groups.proofs.colour.own_groups.Goals.{else-helpand-k, then-helpand-k}
use Rattle.groups.proofs.colour.own_groups.Goals as goal

pub loop-k-init : goal.loop-k-init
loop-k-init c = (length-replicate {A = ℕ} 64 64, owning_none _ _ c.requires.few)

pub loop-k-preserved : goal.loop-k-preserved
loop-k-preserved c =
    let h = at c.args.helpands.now in
    let k = c.loop-k.k in
    let own = c.loop-k.own in
    let v = c.loop-k.invariant in
    -- its helpand is a node
    let below : h k < c.args.nodes = c.requires.inside k c.loop-k-test.true in
    elim c.if-helpand-k.branch [
      | then-helpand-k w ↦ rw w.own-is (
        length-set own _ _ ∙ v.0,
        owning_helper _ h k own v.1 w.if-helpand-k.true (omega (arith, below, c.requires.few, v.0)),
      )
      | else-helpand-k w ↦ rw w.own-is (v.0, owning_root _ h k own v.1 w.if-helpand-k.false)
    ]
