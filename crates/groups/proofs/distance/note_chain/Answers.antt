use mathlib.Core.Path.{◌≡◌}
use Prim.Native.Nat.{◌+◌}
use native.Mathlib.Omega.{arith}
use Rattle.arrays.specs.Arrays.{at}
use Rattle.groups.specs.Colour.{distance}
use Rattle.groups.proofs.Noting.{noting_next, unknown-step}
use Rattle.groups.proofs.distance.note_chain.Goals.{In-loop-known}
use Rattle.groups.proofs.distance.note_chain.Goals as goal

-- a node that is not known: its helpand is nearer
nearer : (c : In-loop-known) →
    let a = c.args in
    let h = at a.helpands.now in
    distance a.nodes h c.loop-known.node ≡ distance a.nodes h (h c.loop-known.node) + 1
nearer c =
    unknown-step c.requires.0 c.loop-known.invariant.right c.loop-known.node c.loop-known.invariant.below c.loop-known-test.true

pub loop-known-preserved : goal.loop-known-preserved
loop-known-preserved c = noting_next c.loop-known.invariant c.requires.0 c.loop-known-test.true

pub loop-known-smaller : goal.loop-known-smaller
loop-known-smaller c = omega (arith, nearer (goal.at.loop-known-smaller c).In-loop-known)

pub overflow_sub-left : goal.overflow_sub-left
overflow_sub-left c = omega (arith, c.loop-known.invariant.left_is, nearer (goal.at.overflow_sub-left c).In-loop-known)
