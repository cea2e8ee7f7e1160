-- `Family::keep` meets its contract: at the loop's head the helpers passed are noted with what they keep, and the rest is the total less
-- what the owner and they keep. Assumes nothing.
use Prim.Native.Nat.{◌-◌}
use Rattle.arrays.specs.Arrays.{at}
use Rattle.shares.specs.Inner.{nodes_in, helpand_in, keeps_in, rooms_in, Somewhere}
use Rattle.shares.proofs.Noting.{NotedSoFar}
use Rattle.shares.proofs.kept.Family.keep.Given as goal

abbrev pub invariant-loop-k : goal.invariant-loop-k
invariant-loop-k l =
    let f = l.self in
    (NotedSoFar (nodes_in f) (helpand_in f) f.n (keeps_in f) (keeps_in f) (at f.tree.now.totals.now f.n - keeps_in f f.n)
    l.initial.shares l.shares l.rest l.k)
    × (Somewhere (nodes_in f) (rooms_in f) l.most)

abbrev pub decreases-loop-k : goal.decreases-loop-k
decreases-loop-k l = nodes_in l.self - l.k
