-- Document 01, 'Moves': the due amounts.
use Rattle.std.specs.Prelude.{ℕ, cond, eqb}
use Rattle.tree.specs.Family.{helps}
use Rattle.tree.specs.Division.{own_of}

-- "The due amount of a subdomain is its share for a helper of the owner, Pn less those shares for the owner, and 0 for any other
-- node." What node k is due of subdomain n, where own is what is left for the owner
unfoldable pub due_with : (ℕ → ℕ) → (ℕ → ℕ) → ℕ → ℕ → ℕ → ℕ
due_with h share own n k = cond (helps h n k) (share k) (cond (eqb k n) own 0)

-- what node k is due of subdomain n
abbrev pub due_of : ℕ → (ℕ → ℕ) → (ℕ → ℕ) → (ℕ → ℕ) → ℕ → ℕ → ℕ
due_of nodes h total share n = due_with h share (own_of nodes h total share n) n
