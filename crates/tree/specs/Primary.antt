-- Document 01, 'Deciding': primary.
use Rattle.std.specs.Prelude.{ℕ, Bool, leb}
use Rattle.fold.specs.All.{all}

-- "Primary: if every Pn is at most L, the plan is kind 0 whatever the old tree."
abbrev pub primary : ℕ → (ℕ → ℕ) → ℕ → Bool
primary nodes total limit = all nodes (λ n. leb (total n) limit)
