-- `Family::above` meets its contract: at the loop's head the sums are those of the owner and of the helpers passed. Assumes nothing.
use Prim.Native.Nat.{ℕ, ◌-◌}
use lib.Dec.{ltb}
use Rattle.fold.specs.Sum.{only}
use Rattle.shares.specs.Inner.{nodes_in, helpand_in, rooms_now}
use Rattle.shares.proofs.Summing.{Summed}
use Rattle.shares.proofs.kept.Family.above.Given as goal

-- what one node adds
abbrev pub excess : (ℕ → ℕ) → ℕ → ℕ → ℕ
excess rooms level k = rooms k - level

abbrev pub one : (ℕ → ℕ) → ℕ → ℕ → ℕ
one rooms level k = only (ltb level (rooms k)) 1

abbrev pub invariant-loop-k : goal.invariant-loop-k
invariant-loop-k l =
    let f = l.self in
    let rooms = rooms_now f l.own l.noted in
    (Summed (nodes_in f) (helpand_in f) f.n (excess rooms l.level f.n) (excess rooms l.level) l.particles l.k)
    × (Summed (nodes_in f) (helpand_in f) f.n (one rooms l.level f.n) (one rooms l.level) l.members l.k)

abbrev pub decreases-loop-k : goal.decreases-loop-k
decreases-loop-k l = nodes_in l.self - l.k
