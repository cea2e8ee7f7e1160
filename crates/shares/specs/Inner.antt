-- What the inner functions of this crate ask of each other. No promise to a caller rests on these definitions.
use Rattle.std.specs.Prelude.{◌≡◌, ◌⊎◌, true, false, List, ℕ, ◌+◌, ◌-◌, ◌≤◌, ◌<◌, min, ltb}
use Rattle.fold.specs.Sum.{only, sum}
use Rattle.arrays.specs.Arrays.{at, tabulate}
use Rattle.sheet.specs.Table.{held}
use Rattle.tree.specs.Family.{helps}
use Rattle.shares.specs.Fill.{room, fill}
use Rattle.shares.specs.Hold.{reserve}
use Rattle.shares.specs.declared.kept.KeptTree.{KeptTree}
use Rattle.shares.specs.declared.kept.Family.{Family}
use Rattle.shares.specs.Shares.{in_family, space, beside, kept, rest, divided, amount, kept_share}

-- ---- the nodes and the helpands of a kept tree, and of a family of it

abbrev pub nodes_of : KeptTree → ℕ
nodes_of t = t.helpers.now.nodes

abbrev pub helpand_of : KeptTree → ℕ → ℕ
helpand_of t = at t.helpers.now.helpands.now

abbrev pub nodes_in : Family → ℕ
nodes_in f = nodes_of f.tree.now

abbrev pub helpand_in : Family → ℕ → ℕ
helpand_in f = helpand_of f.tree.now

-- ---- the terms of 'Shares in a kept tree' for a family and for a tree

abbrev pub spaces_in : Family → ℕ → ℕ
spaces_in f = space (helpand_in f) f.tree.now.limit (at f.reserves.now) f.share f.n

abbrev pub besides_in : Family → ℕ → ℕ
besides_in f = beside (at f.reserves.now) f.share f.n

abbrev pub holding_in : Family → ℕ → ℕ
holding_in f j = held f.tree.now.table.now j f.n

abbrev pub keeps_in : Family → ℕ → ℕ
keeps_in f = kept (spaces_in f) (holding_in f)

abbrev pub rooms_in : Family → ℕ → ℕ
rooms_in f = room (spaces_in f) (keeps_in f)

abbrev pub rest_in : Family → ℕ
rest_in f = rest (nodes_in f) (at f.tree.now.totals.now f.n) (keeps_in f)

abbrev pub divided_in : Family → ℕ → ℕ
divided_in f = divided (nodes_in f) (besides_in f) (spaces_in f) (at f.tree.now.totals.now f.n) (holding_in f)

abbrev pub reserves_in : KeptTree → ℕ → ℕ → ℕ → ℕ
reserves_in t r n = reserve (nodes_of t) (helpand_of t) t.limit (at t.leasts.now) (at t.totals.now) (held t.table.now) r n

abbrev pub amounts_in : KeptTree → ℕ → ℕ → ℕ → ℕ
amounts_in t r n = amount (nodes_of t) (helpand_of t) t.limit (at t.leasts.now) (at t.totals.now) (held t.table.now) r n

abbrev pub share_in : KeptTree → ℕ → ℕ
share_in t = kept_share (nodes_of t) (helpand_of t) t.limit (at t.leasts.now) (at t.totals.now) (held t.table.now)

-- ---- one family's shares are noted: each helper of n below m has its amount, and every other entry is as it was

pub record Noted (h : ℕ → ℕ) (n : ℕ) (amount : ℕ → ℕ) (m : ℕ) (before after : List ℕ) : Type 0 where
  pub helper : (k : ℕ) → k < m → helps h n k ≡ true → at after k ≡ amount k
  pub other : (k : ℕ) → (k < m → helps h n k ≡ false) → at after k ≡ at before k

-- ---- a family whose helpers' amounts are noted in an array, and whose owner has this amount or this room

abbrev pub amounts_now : Family → ℕ → List ℕ → ℕ → ℕ
amounts_now f own noted = in_family (helpand_in f) f.n own (at noted)

abbrev pub rooms_now : Family → ℕ → List ℕ → ℕ → ℕ
rooms_now f own noted = in_family (helpand_in f) f.n own (λ k. f.tree.now.limit - at f.reserves.now k - at noted k)

-- what each node has once a rest is filled in
abbrev pub filled_in : Family → ℕ → ℕ → List ℕ → ℕ → ℕ
filled_in f own rest noted =
    at (fill (nodes_in f) (besides_in f) (spaces_in f) (tabulate (nodes_in f) (amounts_now f own noted)) rest)

-- ---- the level: rooms are brought down to it together

-- what it takes to bring the rooms down to a level, and how many are above it
abbrev pub over : ℕ → (ℕ → ℕ) → ℕ → ℕ
over nodes rooms level = sum nodes (λ k. rooms k - level)

abbrev pub count_above : ℕ → (ℕ → ℕ) → ℕ → ℕ
count_above nodes rooms level = sum nodes (λ k. only (ltb level (rooms k)) 1)

-- one node at least has a room of this size
pub record Somewhere (nodes : ℕ) (rooms : ℕ → ℕ) (size : ℕ) : Type 0 where
  pub node : ℕ
  pub inside : node < nodes
  pub there : size ≤ rooms node

-- the lowest level that so much reaches
pub record Lowest (nodes : ℕ) (rooms : ℕ → ℕ) (rest level : ℕ) : Type 0 where
  pub reached : over nodes rooms level ≤ rest
  pub lowest : (level ≡ 0) ⊎ (rest < over nodes rooms (level - 1))

-- 1 for each room that reaches a level above 0, and 0 for each other: what it takes to go on to the next level
abbrev pub unit : (ℕ → ℕ) → ℕ → ℕ → ℕ
unit rooms level k = rooms k - (level - 1) - (rooms k - level)

-- of what is left, one each to the first of those
abbrev pub extra : (ℕ → ℕ) → ℕ → ℕ → ℕ → ℕ
extra rooms level left k = min (left - sum k (unit rooms level)) (unit rooms level k)

-- what node k gets of the rest: its room is brought down to the level
unfoldable pub gets : (ℕ → ℕ) → ℕ → ℕ → ℕ → ℕ
gets rooms level left k = rooms k - level + extra rooms level left k
