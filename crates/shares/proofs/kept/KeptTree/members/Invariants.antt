-- `KeptTree::members` meets its contract: at the loop's head the sums are those of the helpers passed. Assumes nothing.
use Prim.Native.Nat.{◌+◌, ◌-◌, ◌*◌, ◌≤◌}
use Rattle.arrays.specs.Arrays.{at}
use Rattle.shares.specs.Inner.{nodes_of, helpand_of}
use Rattle.shares.proofs.Summing.{Summed}
use Rattle.shares.proofs.kept.KeptTree.members.Given as goal

-- no hold is above 32 bits
abbrev pub invariant-loop-k : goal.invariant-loop-k
invariant-loop-k l =
    let t = l.self in
    (Summed (nodes_of t) (helpand_of t) l.n 0 (at t.holds.now) l.holds l.k) × (Summed (nodes_of t) (helpand_of t) l.n 1 (λ j. 1) l.size l.k)
    × (l.holds ≤ l.k * 4294967295) × (l.size ≤ l.k + 1)

abbrev pub decreases-loop-k : goal.decreases-loop-k
decreases-loop-k l = nodes_of l.self - l.k
