use mathlib.Core.Path.{◌≡◌}
use Prim.Native.Nat.{◌+◌, ◌≤◌}
use native.Mathlib.Omega.{arith}
use Rattle.arrays.specs.Arrays.{at}
use Rattle.groups.specs.Colour.{distance}
use Rattle.groups.proofs.Distances.{distance_most}
use Rattle.groups.proofs.Noting.{unknown-step}
use Rattle.groups.proofs.distance.distance.Goals.{At-loop-node, In-loop-node}
use Rattle.groups.proofs.distance.distance.Goals as goal

-- a node that is not known: its helpand is nearer
nearer : (c : In-loop-node) →
    let a = c.args in
    let h = at a.helpands.now in
    distance a.nodes h c.loop-node.node ≡ distance a.nodes h (h c.loop-node.node) + 1
nearer c =
    let p = c.requires in
    unknown-step p.0 p.1 c.loop-node.node c.loop-node.invariant.0 c.loop-node-test.true

-- so few steps do not wrap
short : (l : At-loop-node) → l.loop-node.steps ≤ 64
short l = omega (arith, l.loop-node.invariant.1, distance_most l.requires.0 l.args.k)

pub loop-node-preserved : goal.loop-node-preserved
loop-node-preserved c = (
  c.requires.0.inside c.loop-node.node c.loop-node.invariant.0,
  omega (arith, c.loop-node.invariant.1, nearer (goal.at.loop-node-preserved c).In-loop-node),
)

pub loop-node-smaller : goal.loop-node-smaller
loop-node-smaller c = omega (arith, nearer (goal.at.loop-node-smaller c).In-loop-node)

pub overflow_add-steps : goal.overflow_add-steps
overflow_add-steps c = omega (arith, short (goal.at.overflow_add-steps c).At-loop-node)

pub overflow_add-result : goal.overflow_add-result
overflow_add-result c =
    let known = c.requires.1.right c.loop-node.node c.loop-node.invariant.0 c.loop-node-test.false in
    omega (arith, short (goal.at.overflow_add-result c).At-loop-node, known, distance_most c.requires.0 c.loop-node.node)
