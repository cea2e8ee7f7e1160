-- What the inner functions of this crate ask of each other. No promise to a caller rests on these definitions.
use Rattle.std.specs.Prelude.{◌≡◌, List, [], ◌∷◌, ◌++◌, ℕ, ◌≤◌, ◌<◌}
use Rattle.fold.specs.Sum.{total}
use Rattle.limit.specs.Limit.{max_total}
use Rattle.arrays.specs.Arrays.{at}
use Rattle.moves.specs.Moves.{sender, receiver, routes_of, counts_of}
use Rattle.transfer.specs.Apply.{moved}
use Rattle.transfer.specs.Inner.{Readable}
use Rattle.text.specs.Text.{decimal, blank, newline}
use Rattle.text.specs.Columns.{right_aligned}
use Rattle.traffic.specs.declared.Traffic.{Traffic}

-- what adding up the traffic of moves with e entries asks: their counts come to no more than a sheet's sum
pub record Countable (moves : List ℕ) (e : ℕ) : Type 0 where
  pub entries : Readable moves e
  pub small : total (counts_of moves e) ≤ max_total

-- the two columns of the page
pub record TrafficOf (moves : List ℕ) (e : ℕ) (t : Traffic) : Type 0 where
  pub sent : (k : ℕ) → k < 64 → at t.sent k ≡ moved sender (routes_of moves e) (counts_of moves e) k
  pub received : (k : ℕ) → k < 64 → at t.received k ≡ moved receiver (routes_of moves e) (counts_of moves e) k

-- a line behind its node
unfoldable pub amounts : ℕ → ℕ → List ℕ
amounts sent received =
    (blank ∷ []) ++ (right_aligned 10 (decimal sent) ++ ((blank ∷ []) ++ (right_aligned 10 (decimal received) ++ (newline ∷ []))))
