-- Document 01, 'Divisions and the rival'. Nothing here speaks of how a division is found.
use Rattle.std.specs.Prelude.{◌≡◌, ℕ, ◌+◌, ◌-◌, ◌≤◌, ◌<◌, not}
use Rattle.fold.specs.Sum.{only}
use Rattle.plan.specs.Tree.{is_root}
use Rattle.tree.specs.Family.{over_helpers}

-- "For every owner n, a division along a tree gives each member of n's family a whole number, 0 or more, of particles of subdomain n,
-- and these sum to Pn." own n is what node n gets of its own subdomain, share n what it gets of its helpand's.
pub record Division (nodes : ℕ) (h total own share : ℕ → ℕ) : Type 0 where
  pub parts : (n : ℕ) → n < nodes → own n + over_helpers nodes h n share ≡ total n

-- "A node's load in it is what it gets of its own subdomain plus, unless it is the root, what it gets of its helpand's."
abbrev pub load : (ℕ → ℕ) → (ℕ → ℕ) → (ℕ → ℕ) → ℕ → ℕ
load h own share n = own n + only (not (is_root h n)) (share n)

-- a division with every load at most the limit: along the old tree, document 01 calls it a rival's division
pub record WithinLimit (nodes : ℕ) (h total : ℕ → ℕ) (limit : ℕ) (own share : ℕ → ℕ) : Type 0 where
  pub division : Division nodes h total own share
  pub within : (n : ℕ) → n < nodes → load h own share n ≤ limit

-- "one with every load equal to the node's target"
pub record OnTarget (nodes : ℕ) (h total target own share : ℕ → ℕ) : Type 0 where
  pub division : Division nodes h total own share
  pub on : (n : ℕ) → n < nodes → load h own share n ≡ target n

-- "A plan gives each helper its share, and each owner Pn less its helpers' shares."
abbrev pub own_of : ℕ → (ℕ → ℕ) → (ℕ → ℕ) → (ℕ → ℕ) → ℕ → ℕ
own_of nodes h total share n = total n - over_helpers nodes h n share
