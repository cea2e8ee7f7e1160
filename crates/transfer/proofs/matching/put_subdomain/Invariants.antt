-- `transfer::matching::put_subdomain` meets its contract: at the loop's head the moves of the remaining turns are what is left to
-- write. Assumes nothing.
use mathlib.Core.List.{List}
use Prim.Native.Nat.{ℕ, ◌+◌, ◌-◌, ◌*◌, ◌<◌}
use Rattle.std.specs.Option.{IfSome}
use Rattle.arrays.specs.Arrays.{at}
use Rattle.transfer.specs.List.{routes_in, counts_in}
use Rattle.transfer.specs.Matching.{Move, surplus_of, shortage_of, moves_between}
use Rattle.transfer.proofs.Entries.{Pending}
use Rattle.transfer.proofs.Next.{node_of, left_of}
use Rattle.transfer.proofs.matching.put_subdomain.Given as goal

-- what node k holds above its due amount, and what it lacks of it
abbrev pub above : List ℕ → List ℕ → ℕ → ℕ
above holding due k = surplus_of (at holding k) (at due k)

abbrev pub lacks : List ℕ → List ℕ → ℕ → ℕ
lacks holding due k = shortage_of (at holding k) (at due k)

abbrev pub whole : ℕ → List ℕ → List ℕ → List Move
whole nodes holding due = moves_between nodes (at holding) (at due)

abbrev pub invariant-loop-sender : goal.invariant-loop-sender
invariant-loop-sender l = record {
  sender : IfSome l.sender (λ x. x.node < l.nodes);
  receiver : IfSome l.receiver (λ x. x.node < l.nodes);
  pending :
      Pending l.nodes (above l.holding l.due) (lacks l.holding l.due) l.n (routes_in l.initial.moves) (counts_in l.initial.moves)
      (whole l.nodes l.holding l.due) (routes_in l.moves) (counts_in l.moves)
      (node_of l.nodes l.sender) (left_of l.sender) (node_of l.nodes l.receiver) (left_of l.receiver);
}

abbrev pub decreases-loop-sender : goal.decreases-loop-sender
decreases-loop-sender l = 2 * l.nodes - (node_of l.nodes l.sender + node_of l.nodes l.receiver)
