-- `traffic::count_traffic` meets its contract: at the loop's head each node has what it sends and receives in all, less what the moves
-- left come to. Assumes nothing.
use mathlib.Core.Path.{◌≡◌}
use mathlib.Core.List.{List}
use Prim.Native.Nat.{ℕ, ◌+◌}
use lib.ListN.{length}
use Rattle.arrays.specs.Arrays.{at}
use Rattle.moves.specs.Moves.{sender, receiver, routes_of, counts_of}
use Rattle.transfer.specs.Apply.{moved}
use Rattle.transfer.proofs.Applied.{moved_from}
use Rattle.traffic.proofs.count_traffic.Given as goal

-- one column: what ends at each node
pub record Column (end : ℕ → ℕ) (moves : List ℕ) (e : ℕ) (column : List ℕ) (i : ℕ) : Type 0 where
  pub size : length column ≡ 64
  pub added : (k : ℕ) → at column k + moved_from end moves e i k ≡ moved end (routes_of moves e) (counts_of moves e) k

abbrev pub invariant-loop-i : goal.invariant-loop-i
invariant-loop-i l = Column sender l.moves l.e l.sent l.i × Column receiver l.moves l.e l.received l.i
