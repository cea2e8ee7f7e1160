-- `transfer::apply::subtract_sends` meets its contract: at the loop's head each cell has what it had, less what it sends in all, plus
-- what the moves left send. Assumes nothing.
use mathlib.Core.Path.{◌≡◌}
use mathlib.Core.List.{List}
use Prim.Native.Nat.{ℕ, ◌+◌}
use lib.ListN.{length}
use Rattle.limit.specs.Limit.{table_size}
use Rattle.arrays.specs.Arrays.{at}
use Rattle.moves.specs.Moves.{routes_of, counts_of}
use Rattle.transfer.specs.Apply.{from_cell, sends}
use Rattle.transfer.proofs.Applied.{moved_from}
use Rattle.transfer.proofs.apply.subtract_sends.Given as goal

pub record Subtracting (old moves : List ℕ) (e : ℕ) (table : List ℕ) (i : ℕ) : Type 0 where
  pub size : length table ≡ table_size
  pub left : (c : ℕ) → at table c + sends (routes_of moves e) (counts_of moves e) c ≡ at old c + moved_from from_cell moves e i c

abbrev pub invariant-loop-i : goal.invariant-loop-i
invariant-loop-i l = Subtracting l.initial.table l.moves l.e l.table l.i
