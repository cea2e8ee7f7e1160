-- Document 01, *Carry out*: refusal 42 and the table that follows.
use Rattle.std.specs.Prelude.{ℕ, ◌+◌, ◌-◌, List, [], ◌∷◌, Bool, true, ◌&&◌, leb, eqb}
use Rattle.sheet.specs.Sheet.{cell}
use Rattle.fold.specs.Sum.{only}
use Rattle.moves.specs.Moves.{subdomain, sender, receiver}

-- the cell that a route leads from, and the cell that it leads to
abbrev pub from_cell : ℕ → ℕ
from_cell route = cell (sender route) (subdomain route)

abbrev pub into_cell : ℕ → ℕ
into_cell route = cell (receiver route) (subdomain route)

-- the sum of the counts of all moves whose end is c, where an end is a cell or, on the traffic page, a node
unfoldable pub moved : (ℕ → ℕ) → List ℕ → List ℕ → ℕ → ℕ
moved end [] counts c = 0
moved end (route ∷ routes) [] c = 0
moved end (route ∷ routes) (count ∷ counts) c = only (eqb (end route) c) count + moved end routes counts c

-- what cell c sends in all, and what it receives in all
abbrev pub sends : List ℕ → List ℕ → ℕ → ℕ
sends routes counts c = moved from_cell routes counts c

abbrev pub receives : List ℕ → List ℕ → ℕ → ℕ
receives routes counts c = moved into_cell routes counts c

-- not "42, some cell sends in all more than the old sheet gives it", from cell c on
unfoldable pub within_from : List ℕ → List ℕ → ℕ → List ℕ → Bool
within_from routes counts c [] = true
within_from routes counts c (x ∷ table) =
    let rest = within_from routes counts (c + 1) table in
    leb (sends routes counts c) x && rest

abbrev pub sends_within : List ℕ → List ℕ → List ℕ → Bool
sends_within table routes counts = within_from routes counts 0 table

-- the table with f c x in cell c in place of its count x, from cell c on
unfoldable pub each_from : (ℕ → ℕ → ℕ) → ℕ → List ℕ → List ℕ
each_from f c [] = []
each_from f c (x ∷ table) = f c x ∷ each_from f (c + 1) table

-- "each cell less what it sends", and each cell "plus what it receives"
abbrev pub less_sends : List ℕ → List ℕ → List ℕ → List ℕ
less_sends table routes counts = each_from (λ c x. x - sends routes counts c) 0 table

abbrev pub plus_receipts : List ℕ → List ℕ → List ℕ → List ℕ
plus_receipts table routes counts = each_from (λ c x. x + receives routes counts c) 0 table

-- "each cell less what it sends, plus what it receives"
abbrev pub carried : List ℕ → List ℕ → List ℕ → List ℕ
carried table routes counts = plus_receipts (less_sends table routes counts) routes counts
