-- `sheet::totals::add_row` meets its contract: the entries of the subdomains passed have the holder's count too, the others are as they
-- were.
-- Assumes nothing.
use mathlib.Core.Path.{◌≡◌}
use Prim.Native.Nat.{ℕ, ◌+◌, ◌≤◌, ◌<◌}
use lib.ListN.{length}
use Rattle.arrays.specs.Arrays.{at}
use Rattle.sheet.specs.Totals.{total_of}
use Rattle.sheet.proofs.totals.add_row.Given as goal

abbrev pub invariant-loop-n : goal.invariant-loop-n
invariant-loop-n l =
    (length l.totals ≡ 64) × ((k : ℕ) → k < l.n → at l.totals k ≡ total_of (l.holder + 1) l.table k) × ((k : ℕ) → l.n ≤ k → at l.totals k ≡ at l.initial.totals k)
