-- The entries of a sheet met one by one: what the entries from number i on give a cell, at the head of a loop over them and in one turn
-- of it. Assumes nothing.
use mathlib.Core.Path.{◌≡◌, refl, sym, ◌∙◌}
use mathlib.Core.Bool.{true}
use mathlib.Core.List.{List, ◌∷◌}
use Prim.Native.Nat.{ℕ, ◌+◌, ◌≤◌, ◌<◌}
use native.Mathlib.Omega.{arith}
use lib.ListN.{get_or, drop}
use Rattle.fold.specs.Rising.{rising}
use Rattle.fold.proofs.Lists.{rises}
use Rattle.limit.specs.Limit.{table_size}
use Rattle.arrays.specs.Arrays.{at}
use Rattle.words.specs.Words.{words}
use Rattle.words.proofs.Words.{part_more, part_end}
use Rattle.sheet.specs.Sheet.{cells_of, counts_of, cell_fine}
use Rattle.sheet.specs.Table.{count_at, table_of}
use Rattle.sheet.specs.Inner.{Unpackable}
use Rattle.sheet.proofs.Laws.{cell_below}
use Rattle.sheet.proofs.Tables.{count-table, count-here, count-other, count-below}

-- the count that the entries from number i on have for cell c
abbrev pub left : List ℕ → ℕ → ℕ → ℕ → ℕ
left s e i c = count_at (drop i (cells_of s e)) (drop i (counts_of s e)) c

-- at the loop's head: the entries left still rise, and the cells from low on have all their counts among them
pub record Left (s : List ℕ) (n e i : ℕ) : Type 0 where
  pub low : ℕ
  pub rise : rising (cell_fine n) low (drop i (cells_of s e)) ≡ true
  pub ahead : (c : ℕ) → low ≤ c → left s e i c ≡ at (table_of s e) c

module _ (s : List ℕ) (n e : ℕ) (given : Unpackable s n e) where
  -- at first they give each cell its count
  pub left-all : (c : ℕ) → left s e 0 c ≡ at (table_of s e) c
  left-all c = sym (count-table s n e given c)

  pub left_begin : Left s n e 0
  left_begin = record { low = 0; rise = given.cells; ahead = λ c h. left-all c }

  -- and in the end nothing
  pub left-none : (i : ℕ) → e ≤ i → (c : ℕ) → left s e i c ≡ 0
  left-none i h c = rw (part_end s 3 e i h) (unfold count_at in refl)

  -- a turn: cell x and count k were read as entry i
  module _ (i : ℕ) (at_head : Left s n e i) (h : i < e) (x k : ℕ) (is_x : x ≡ get_or (words s) (3 + i) 0)
      (is-k : k ≡ get_or (words s) (3 + e + i) 0) where
    cells : drop i (cells_of s e) ≡ x ∷ drop (i + 1) (cells_of s e)
    cells = rw is_x (part_more s 3 e i h (omega (arith, given.long)))

    counts : drop i (counts_of s e) ≡ k ∷ drop (i + 1) (counts_of s e)
    counts = rw is-k (part_more s (3 + e) e i h (omega (arith, given.long)))

    rises_here : rising (cell_fine n) at_head.low (x ∷ drop (i + 1) (cells_of s e)) ≡ true
    rises_here = rw cells at at_head.rise

    -- the cell is an index of the table
    pub left_below : x < table_size
    left_below =
        omega (
          arith,
          cell_below n x (rises (cell_fine n) at_head.low x (drop (i + 1) (cells_of s e)) rises_here).passes,
          given.few,
        )

    -- the entry gives its cell k
    pub left_here : left s e i x ≡ k
    left_here = rw (cells, counts) (count-here x k (drop (i + 1) (cells_of s e)) (drop (i + 1) (counts_of s e)) x refl)

    above : at_head.low ≤ x
    above = (rises (cell_fine n) at_head.low x (drop (i + 1) (cells_of s e)) rises_here).above

    -- which is its count in the table
    pub left-count : at (table_of s e) x ≡ k
    left-count = sym (at_head.ahead x above) ∙ left_here

    -- and no later one gives it any
    pub left_gone : left s e (i + 1) x ≡ 0
    left_gone =
        count-below (cell_fine n) (x + 1) (drop (i + 1) (cells_of s e)) (drop (i + 1) (counts_of s e)) x
        (rises (cell_fine n) at_head.low x (drop (i + 1) (cells_of s e)) rises_here).rest (omega arith)

    -- to other cells it gives nothing
    pub left_other : (c : ℕ) → (x ≡ c → ⊥) → left s e i c ≡ left s e (i + 1) c
    left_other c d = rw (cells, counts) (count-other x k (drop (i + 1) (cells_of s e)) (drop (i + 1) (counts_of s e)) c d)

    pub left_again : Left s n e (i + 1)
    left_again =
        record {
          low = x + 1;
          rise = (rises (cell_fine n) at_head.low x (drop (i + 1) (cells_of s e)) rises_here).rest;
          ahead = λ c h. sym (left_other c (λ z. omega arith)) ∙ at_head.ahead c (omega (arith, above));
        }
