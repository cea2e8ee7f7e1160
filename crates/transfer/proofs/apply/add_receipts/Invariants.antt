-- `transfer::apply::add_receipts` meets its contract: at the loop's head each cell has, with what the moves left bring it, what it will
-- have in the end. Assumes nothing.
use mathlib.Core.Path.{◌≡◌}
use mathlib.Core.List.{List}
use Prim.Native.Nat.{ℕ, ◌+◌}
use lib.ListN.{length}
use Rattle.limit.specs.Limit.{table_size}
use Rattle.arrays.specs.Arrays.{at}
use Rattle.moves.specs.Moves.{routes_of, counts_of}
use Rattle.transfer.specs.Apply.{into_cell, receives}
use Rattle.transfer.proofs.Applied.{moved_from}
use Rattle.transfer.proofs.apply.add_receipts.Given as goal

pub record Adding (old moves : List ℕ) (e : ℕ) (table : List ℕ) (i : ℕ) : Type 0 where
  pub size : length table ≡ table_size
  pub added : (c : ℕ) → at table c + moved_from into_cell moves e i c ≡ at old c + receives (routes_of moves e) (counts_of moves e) c

abbrev pub invariant-loop-i : goal.invariant-loop-i
invariant-loop-i l = Adding l.initial.table l.moves l.e l.table l.i
