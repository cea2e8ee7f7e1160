-- The laws of rooms and of filling for a family of a kept tree. Assumes nothing.
use mathlib.Core.Path.{◌≡◌}
use mathlib.Core.List.{List}
use Prim.Native.Nat.{ℕ, ◌+◌, ◌-◌, ◌≤◌}
use Rattle.arrays.specs.Arrays.{at}
use Rattle.shares.specs.Fill.{room}
use Rattle.shares.specs.Inner.{nodes_in, helpand_in, spaces_in, keeps_in, rooms_in, rest_in, divided_in, Noted, amounts_now, rooms_now, filled_in, over, Somewhere, Lowest, gets}
use Rattle.shares.specs.declared.kept.Family.{Family}
use Rattle.shares.proofs.Spaces as spaces
use Rattle.shares.proofs.Filling as filling

abbrev helpands : Family → List ℕ
helpands f = f.tree.now.helpers.now.helpands.now

-- ---- rooms

module _ (f : Family) where
  -- no room is above 32 bits
  pub rooms-most : (own : ℕ) (noted : List ℕ) → own ≤ 4294967295 → (k : ℕ) → rooms_now f own noted k ≤ 4294967295
  rooms-most own noted l = spaces.rooms-most f.tree.now.limit (helpands f) f.reserves.now f.n own noted 4294967295 l f.tree.now.fits

  -- the rooms are what the members have space for beyond their amounts
  pub rooms_are : (own : ℕ) (noted : List ℕ)
      → rooms_now f (f.tree.now.limit - f.share - own) noted ≡ room (spaces_in f) (amounts_now f own noted)
  rooms_are own noted = spaces.rooms_are f.tree.now.limit (helpands f) f.reserves.now f.n f.share own noted

-- ---- the level's amounts are noted, and they are those

module _ (f : Family) (own rest : ℕ) (before after : List ℕ) (level left : ℕ) {room : ℕ} (o : room ≡ f.tree.now.limit - f.share - own) where
  abbrev rooms : ℕ → ℕ
  rooms = rooms_now f room before

  pub level-noted : Lowest (nodes_in f) rooms rest level → left ≡ rest - over (nodes_in f) rooms level
      → Noted (helpand_in f) f.n (λ k. at before k + gets rooms level left k) (nodes_in f) before after
      → Noted (helpand_in f) f.n (filled_in f own rest before) (nodes_in f) before after
  level-noted =
      filling.level-noted (nodes_in f) f.tree.now.limit (helpands f) f.reserves.now f.share own rest f.n before after level left o

-- ---- where what is kept was noted before, the amounts are those that the spaces give

module _ (f : Family) (before kept : List ℕ) (p : Noted (helpand_in f) f.n (keeps_in f) (nodes_in f) before kept) where
  -- a room that is somewhere is so there
  pub kept_somewhere : {own most : ℕ} → own ≡ keeps_in f f.n → Somewhere (nodes_in f) (rooms_in f) most
      → Somewhere (nodes_in f) (rooms_now f (f.tree.now.limit - f.share - own) kept) most
  kept_somewhere o q =
      filling.kept_somewhere (nodes_in f) f.tree.now.limit (helpands f) f.reserves.now f.tree.now.totals.now f.tree.now.table.now f.share f.n
      before kept p o q

  -- there is no rest
  pub kept-noted : rest_in f ≡ 0 → Noted (helpand_in f) f.n (divided_in f) (nodes_in f) before kept
  kept-noted =
      filling.kept-noted (nodes_in f) f.tree.now.limit (helpands f) f.reserves.now f.tree.now.totals.now f.tree.now.table.now f.share f.n
      before kept p

  -- the rest is filled in
  pub filled-noted : {own rest : ℕ} {after : List ℕ} → own ≡ keeps_in f f.n → rest ≡ rest_in f
      → Noted (helpand_in f) f.n (filled_in f own rest kept) (nodes_in f) kept after
      → Noted (helpand_in f) f.n (divided_in f) (nodes_in f) before after
  filled-noted o e q =
      filling.filled-noted (nodes_in f) f.tree.now.limit (helpands f) f.reserves.now f.tree.now.totals.now f.tree.now.table.now f.share f.n
      before kept p o e q
