-- What the inner functions of this crate ask of each other. No promise to a caller rests on these definitions.
use Rattle.std.specs.Prelude.{◌≡◌, ℕ, ◌+◌, ◌*◌, ◌≤◌, ◌<◌, List, length, get_or, None, Option, Some}
use Rattle.limit.specs.Limit.{max_total, table_size}
use Rattle.arrays.specs.Arrays.{at}
use Rattle.words.specs.Words.{words}
use Rattle.tree.specs.Family.{over_helpers}
use Rattle.moves.specs.Moves.{routes_of, counts_of}
use Rattle.transfer.specs.Apply.{receives}
use Rattle.transfer.specs.declared.matching.Remaining.{Remaining}

-- what due amounts and moves ask of a plan: each helpand is a node, and no owner's helpers are given more than there is
pub record Allotted (nodes : ℕ) (h total share : ℕ → ℕ) : Type 0 where
  pub inside : (k : ℕ) → k < nodes → h k < nodes
  pub enough : (n : ℕ) → n < nodes → over_helpers nodes h n share ≤ total n

-- a step of going through nodes "by rising number": the first node from `from` on with an amount, and the amount
abbrev pub NextAbove : ℕ → (ℕ → ℕ) → ℕ → Option Remaining → Type 0
NextAbove nodes amount from None = (k : ℕ) → from ≤ k → k < nodes → amount k ≡ 0
NextAbove nodes amount from (Some x) =
    (from ≤ x.node) × (x.node < nodes) × (x.count ≡ amount x.node) × (0 < x.count)
    × ((k : ℕ) → from ≤ k → k < x.node → amount k ≡ 0)

-- what reading moves entry by entry asks: the bytes of moves with e entries, each route one of 64 × 4,096
pub record Readable (moves : List ℕ) (e : ℕ) : Type 0 where
  pub long : 4 * (2 + 2 * e) ≤ length moves
  pub below : (i : ℕ) → i < e → get_or (words moves) (2 + i) 0 < 64 * table_size

-- and applying them: a table
pub record Ready (table moves : List ℕ) (e : ℕ) : Type 0 where
  pub size : length table ≡ table_size
  pub entries : Readable moves e

-- and for what arrives: no cell comes to more than a sheet's sum
abbrev pub Room : List ℕ → List ℕ → ℕ → Type 0
Room table moves e = (c : ℕ) → c < table_size → at table c + receives (routes_of moves e) (counts_of moves e) c ≤ max_total
