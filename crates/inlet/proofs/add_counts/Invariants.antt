-- `inlet::add_counts` meets its contract: at the loop's head each cell has, with the counts of the entries left, the sum. Assumes nothing.
use Prim.Native.Nat.{ℕ}
use Rattle.inlet.specs.Inner.{Addable}
use Rattle.inlet.proofs.Adding.{Adding}
use Rattle.inlet.proofs.add_counts.Given as goal

abbrev pub invariant-loop-i : goal.invariant-loop-i
invariant-loop-i l = (n : ℕ) × Addable l.initial.table l.s n l.e × Adding l.initial.table l.s n l.e l.table l.i
