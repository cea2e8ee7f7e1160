-- Request 2026-07 of three records in bytes: a plan and moves, beside the sheet that they were made for, and the sheet that follows.
use Rattle.std.specs.Prelude.{◌≡◌, Bool, true, List, ℕ, ◌-◌, ◌≤◌, ◌<◌, min}
use Rattle.arrays.specs.Arrays.{at}
use Rattle.sheet.specs.Sheet.{cell, read_sheet}
use Rattle.sheet.specs.Table.{table_in, held}
use Rattle.sheet.specs.Totals.{totals_in}
use Rattle.moves.specs.Moves.{read_moves, routes_of, counts_of}
use Rattle.tree.specs.Family.{helps}
use Rattle.transfer.specs.Apply.{sends}
use Rattle.shares.specs.Hold.{hold, affords}
use Rattle.claim.specs.Claim.{helpand, share, own}
use Rattle.claim.specs.Rest.{leasts}

-- the family of n can afford the holds of its helpers, with the share that the plan gives n
abbrev pub affords_in : List ℕ → List ℕ → ℕ → Bool
affords_in s plan n =
    let holds = hold (read_sheet s).limit (leasts s plan) (held (table_in s)) in
    affords (read_sheet s).n (helpand s plan) (read_sheet s).limit holds (at (totals_in s)) (share s plan n) n

-- what node k sends of subdomain n
abbrev pub sends_of : List ℕ → ℕ → ℕ → ℕ
sends_of moves k n = sends (routes_of moves (read_moves moves).e) (counts_of moves (read_moves moves).e) (cell k n)

-- node k's own particles, up to the limit, are left in place: the plan gives it so many, it sends none but those above the limit, and it
-- has so many in the sheet that follows
pub record OwnKept (s plan moves next : List ℕ) (k : ℕ) : Type 0 where
  pub given : min (held (table_in s) k k) (read_sheet s).limit ≤ own s plan k
  pub sent : sends_of moves k k ≤ held (table_in s) k k - (read_sheet s).limit
  pub stays : min (held (table_in s) k k) (read_sheet s).limit ≤ held (table_in next) k k

-- "Leave helpers' own particles in place": those of each helper of a family that can afford the holds
abbrev pub OwnInPlaceIn : List ℕ → List ℕ → List ℕ → List ℕ → Type 0
OwnInPlaceIn s plan moves next =
    (n k : ℕ) → n < (read_sheet s).n → k < (read_sheet s).n → helps (helpand s plan) n k ≡ true → affords_in s plan n ≡ true
    → OwnKept s plan moves next k
