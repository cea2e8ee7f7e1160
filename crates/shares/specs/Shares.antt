-- Document 01, 'Shares in a kept tree', "from the root down. Rn is n's share, 0 for the root." Request 2026-03 replaced its last sentence,
-- and 2026-07 has hold in place of least where a family can afford it.
use Rattle.std.specs.Prelude.{cond, List, ℕ, ◌-◌, min, eqb}
use Rattle.fold.specs.Sum.{only, sum}
use Rattle.arrays.specs.Arrays.{at, tabulate}
use Rattle.tree.specs.Family.{helps}
use Rattle.tree.specs.Down.{down}
use Rattle.shares.specs.Fill.{fill}
use Rattle.shares.specs.Hold.{reserve}

-- ---- one family

-- a number for each member of the family of n: `own` at n itself, `helper` at each helper, and 0 at a node that is no member
unfoldable pub in_family : (ℕ → ℕ) → ℕ → ℕ → (ℕ → ℕ) → ℕ → ℕ
in_family h n own helper k = cond (eqb k n) own (only (helps h n k) (helper k))

-- "The space for subdomain n is L − Rn at n itself, and L − least at each helper", or L − hold: `reserves` has which of the two. Space is
-- document 01's term for the most that a member may have of a subdomain; a node that is no member has none. r is Rn.
unfoldable pub space : (ℕ → ℕ) → ℕ → (ℕ → ℕ) → ℕ → ℕ → ℕ → ℕ
space h limit reserves r n = in_family h n (limit - r) (λ k. limit - reserves k)

-- what a member has beside its amount, in the words of 2026-03: "R .. for the owner, and least .. for a helper", or hold
unfoldable pub beside : (ℕ → ℕ) → ℕ → ℕ → ℕ → ℕ
beside reserves r n k = cond (eqb k n) r (reserves k)

-- "Each member first keeps the smaller of its space and what it already holds of subdomain n."
abbrev pub kept : (ℕ → ℕ) → (ℕ → ℕ) → ℕ → ℕ
kept spaces holding k = min (spaces k) (holding k)

-- "The rest": Pn less all that is kept
abbrev pub rest : ℕ → ℕ → (ℕ → ℕ) → ℕ
rest nodes total keeps = total - sum nodes keeps

-- what each node gets of so many particles, with these spaces and holdings, and with this beside its amount: "What a member already keeps
-- is unchanged", and the rest is given on top of it
unfoldable pub divided : ℕ → (ℕ → ℕ) → (ℕ → ℕ) → ℕ → (ℕ → ℕ) → ℕ → ℕ
divided nodes beside spaces total holding =
    let keeps = kept spaces holding in
    at (fill nodes beside spaces (tabulate nodes keeps) (rest nodes total keeps))

-- the space of each member of the family of n, and what it has beside its amount, by hold or by least
abbrev pub member_space : ℕ → (ℕ → ℕ) → ℕ → (ℕ → ℕ) → (ℕ → ℕ) → (ℕ → ℕ → ℕ) → ℕ → ℕ → ℕ → ℕ
member_space nodes h limit least total held r n = space h limit (reserve nodes h limit least total held r n) r n

abbrev pub member_beside : ℕ → (ℕ → ℕ) → ℕ → (ℕ → ℕ) → (ℕ → ℕ) → (ℕ → ℕ → ℕ) → ℕ → ℕ → ℕ → ℕ
member_beside nodes h limit least total held r n = beside (reserve nodes h limit least total held r n) r n

-- what each node gets of subdomain n
unfoldable pub amount : ℕ → (ℕ → ℕ) → ℕ → (ℕ → ℕ) → (ℕ → ℕ) → (ℕ → ℕ → ℕ) → ℕ → ℕ → ℕ → ℕ
amount nodes h limit least total held r n =
    let spaces = member_space nodes h limit least total held r n in
    divided nodes (member_beside nodes h limit least total held r n) spaces (total n) (λ j. held j n)

-- ---- the tree

-- the share of node k, document 01's term for what it holds of its helpand's subdomain: from the root down, with these amounts. No tree
-- of so many nodes has more levels.
abbrev pub kept_share : ℕ → (ℕ → ℕ) → ℕ → (ℕ → ℕ) → (ℕ → ℕ) → (ℕ → ℕ → ℕ) → ℕ → ℕ
kept_share nodes h limit least total held = down h (amount nodes h limit least total held) nodes

-- the shares of all nodes
abbrev pub kept_shares : ℕ → (ℕ → ℕ) → ℕ → (ℕ → ℕ) → (ℕ → ℕ) → (ℕ → ℕ → ℕ) → List ℕ
kept_shares nodes h limit least total held = tabulate nodes (kept_share nodes h limit least total held)
