-- Families: "A node may also help one other owner, its helpand. An owner and its helpers are a family."
use Rattle.std.specs.Prelude.{ℕ, Bool, ◌&&◌, not, eqb}
use Rattle.fold.specs.Sum.{only, sum}

-- k helps n: its helpand is n, and it is another node
abbrev pub helps : (ℕ → ℕ) → ℕ → ℕ → Bool
helps h n k = eqb (h k) n && not (eqb k n)

-- the sum of f over the helpers of n
abbrev pub over_helpers : ℕ → (ℕ → ℕ) → ℕ → (ℕ → ℕ) → ℕ
over_helpers nodes h n f = sum nodes (λ k. only (helps h n k) (f k))
