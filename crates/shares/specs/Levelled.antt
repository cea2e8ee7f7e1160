-- What request 2026-03 means for a plan with a kept tree, by its shares alone: "With the rest going to the owner first, owners sit at the
-- limit while their helpers idle." Now nobody is lifted far above a member that still has space.
use Rattle.std.specs.Prelude.{ℕ, ◌+◌, ◌≤◌, ◌<◌}
use Rattle.tree.specs.Division.{own_of}
use Rattle.shares.specs.Fill.{standing_load}
use Rattle.shares.specs.Shares.{in_family, kept, member_space, member_beside}

-- what each node has of subdomain n: the owner Pn less its helpers' shares, a helper its share, and any other node nothing
abbrev pub part_of : ℕ → (ℕ → ℕ) → (ℕ → ℕ) → (ℕ → ℕ) → ℕ → ℕ → ℕ
part_of nodes h total share n = in_family h n (own_of nodes h total share n) share

-- in the family of n member j was given a particle of the rest, and member k still has space
pub record Compared (nodes : ℕ) (h : ℕ → ℕ) (limit : ℕ) (least total : ℕ → ℕ) (held : ℕ → ℕ → ℕ) (share : ℕ → ℕ) (n j k : ℕ) : Type 0 where
  pub owner : n < nodes
  pub one : j < nodes
  pub other : k < nodes
  pub given : kept (member_space nodes h limit least total held (share n) n) (λ i. held i n) j < part_of nodes h total share n j
  pub has_space : part_of nodes h total share n k < member_space nodes h limit least total held (share n) n k

-- the standing load of member k of the family of n
abbrev pub stands_at : ℕ → (ℕ → ℕ) → ℕ → (ℕ → ℕ) → (ℕ → ℕ) → (ℕ → ℕ → ℕ) → (ℕ → ℕ) → ℕ → ℕ → ℕ
stands_at nodes h limit least total held share n =
    standing_load (member_beside nodes h limit least total held (share n) n) (part_of nodes h total share n)

-- whoever was given a particle stands at most one above a member that still has space, and not above one of lower number
pub record RestLevelled (nodes : ℕ) (h : ℕ → ℕ) (limit : ℕ) (least total : ℕ → ℕ) (held : ℕ → ℕ → ℕ) (share : ℕ → ℕ) : Type 0 where
  pub near : (n j k : ℕ) → Compared nodes h limit least total held share n j k
      → stands_at nodes h limit least total held share n j ≤ stands_at nodes h limit least total held share n k + 1
  pub ties : (n j k : ℕ) → Compared nodes h limit least total held share n j k → k < j
      → stands_at nodes h limit least total held share n j ≤ stands_at nodes h limit least total held share n k
