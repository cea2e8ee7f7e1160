-- `transfer::matching::holdings` meets its contract: after k turns the array holds what the first k nodes hold. Assumes nothing.
use mathlib.Core.Path.{◌≡◌}
use mathlib.Core.List.{List}
use Prim.Native.Nat.{ℕ}
use Rattle.sheet.specs.Table.{held}
use Rattle.arrays.specs.Arrays.{tabulate}
use Rattle.transfer.proofs.matching.holdings.Given as goal

-- what node k holds of subdomain n
abbrev pub holds : List ℕ → ℕ → ℕ → ℕ
holds table n k = held table k n

abbrev pub invariant-loop-k : goal.invariant-loop-k
invariant-loop-k l = l.holding ≡ tabulate l.k (holds l.table l.n)
