-- `transfer::due::own_amounts` meets its contract: after k turns, what is left for each owner and the shares of its first helpers are
-- its total. Assumes nothing.
use mathlib.Core.Path.{◌≡◌}
use Prim.Native.Nat.{ℕ, ◌+◌}
use lib.ListN.{length}
use Rattle.arrays.specs.Arrays.{at}
use Rattle.tree.specs.Family.{over_helpers}
use Rattle.transfer.proofs.due.own_amounts.Given as goal

abbrev pub invariant-loop-k : goal.invariant-loop-k
invariant-loop-k l = record {
  size : length l.own ≡ 64;
  left : (n : ℕ) → at l.own n + over_helpers l.k (at l.helpands) n (at l.shares) ≡ at l.initial.own n;
}
