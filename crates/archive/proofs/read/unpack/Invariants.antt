-- `archive::read::unpack` meets its contract: the cells passed have the counts at their positions. Assumes nothing.
use mathlib.Core.Path.{◌≡◌}
use Prim.Native.Nat.{ℕ, ◌<◌}
use lib.ListN.{length}
use Rattle.limit.specs.Limit.{table_size}
use Rattle.arrays.specs.Arrays.{at}
use Rattle.archive.specs.ZOrder.{position_of}
use Rattle.archive.specs.Archive.{count_in}
use Rattle.archive.proofs.read.unpack.Given as goal

abbrev pub invariant-loop-c : goal.invariant-loop-c
invariant-loop-c l =
    (length l.table ≡ table_size) × ((k : ℕ) → k < l.c → at l.table k ≡ count_in l.a (position_of k))
