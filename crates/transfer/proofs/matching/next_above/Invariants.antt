-- `transfer::matching::next_above` meets its contract: at the loop's head no node passed is above its bound. Assumes nothing.
use mathlib.Core.Path.{◌≡◌}
use Prim.Native.Nat.{ℕ, ◌-◌, ◌≤◌, ◌<◌}
use Rattle.arrays.specs.Arrays.{at}
use Rattle.transfer.proofs.matching.next_above.Given as goal

abbrev pub invariant-loop-node : goal.invariant-loop-node
invariant-loop-node l = (k : ℕ) → l.from ≤ k → k < l.node → at l.amounts k - at l.bounds k ≡ 0
