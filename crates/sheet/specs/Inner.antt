-- What the inner functions of this crate ask of each other. No promise to a caller rests on these definitions.
use Rattle.std.specs.Prelude.{◌≡◌, true, List, ℕ, ◌+◌, ◌*◌, ◌≤◌, length}
use Rattle.fold.specs.Rising.{rising}
use Rattle.limit.specs.Limit.{max_nodes}
use Rattle.sheet.specs.Sheet.{cells_of, cell_fine}

-- what unpacking asks: e cells and e counts are there, and the cells rise and name nodes below n
pub record Unpackable (s : List ℕ) (n e : ℕ) : Type 0 where
  pub few : n ≤ max_nodes
  pub long : 4 * (3 + 2 * e) ≤ length s
  pub cells : rising (cell_fine n) 0 (cells_of s e) ≡ true
