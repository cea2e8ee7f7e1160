-- `Family::spread` meets its contract: at the loop's head the helpers passed are noted with what they get, and of what is left each of
-- them that reaches the level has taken one. Assumes nothing.
use Prim.Native.Nat.{◌+◌, ◌-◌}
use Rattle.arrays.specs.Arrays.{at}
use Rattle.shares.specs.Inner.{nodes_in, helpand_in, rooms_now, unit, gets}
use Rattle.shares.proofs.Noting.{NotedSoFar}
use Rattle.shares.proofs.kept.Family.spread.Given as goal

abbrev pub invariant-loop-k : goal.invariant-loop-k
invariant-loop-k l =
    let f = l.self in
    let rooms = rooms_now f l.own l.initial.shares in
    NotedSoFar (nodes_in f) (helpand_in f) f.n (λ j. at l.initial.shares j + gets rooms l.level l.left j) (unit rooms l.level) l.left
    l.initial.shares l.shares l.some l.k

abbrev pub decreases-loop-k : goal.decreases-loop-k
decreases-loop-k l = nodes_in l.self - l.k
