-- Document 01, 'Rebuilding': the targets.
use Rattle.std.specs.Prelude.{ℕ, ◌+◌, ◌/◌, ◌%◌, List, ltb}
use Rattle.fold.specs.Sum.{only}
use Rattle.arrays.specs.Arrays.{tabulate}

-- "There is a target for every node: P/N rounded down, plus 1 for nodes below P mod N."
unfoldable pub target_of : ℕ → ℕ → ℕ → ℕ
target_of nodes p n = p / nodes + only (ltb n (p % nodes)) 1

-- the targets of all nodes
abbrev pub targets_of : ℕ → ℕ → List ℕ
targets_of nodes p = tabulate nodes (target_of nodes p)
