-- Links from helper to helper, "by rising number".
use Rattle.std.specs.Prelude.{◌≢◌, List, ℕ, ◌+◌, ◌<◌}
use Rattle.fold.specs.First.{FirstFrom}
use Rattle.arrays.specs.Arrays.{at}
use Rattle.tree.specs.Family.{helps}

-- at n stands the first helper of n, and at 64 + k the next after k of the node that k helps; the number of nodes where there is none
pub record Linked (nodes : ℕ) (h : ℕ → ℕ) (links : List ℕ) : Type 0 where
  pub first : (n : ℕ) → n < nodes → FirstFrom nodes (helps h n) 0 (at links n)
  pub next : (k : ℕ) → k < nodes → h k ≢ k → FirstFrom nodes (helps h (h k)) (k + 1) (at links (64 + k))
