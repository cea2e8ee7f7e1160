-- A sheet's table of 4,096 counts. Document 01: "Cells absent from the sheet count as 0".
use Rattle.std.specs.Prelude.{ℕ, zero, suc, ◌+◌, List, [], ◌∷◌, cond, eqb}
use Rattle.arrays.specs.Arrays.{at}
use Rattle.limit.specs.Limit.{table_size}
use Rattle.sheet.specs.Sheet.{cell, cells_of, counts_of, read_sheet}

-- the count that stands beside cell c, and 0 where c is absent
unfoldable pub count_at : List ℕ → List ℕ → ℕ → ℕ
count_at [] counts c = 0
count_at (x ∷ cells) [] c = 0
count_at (x ∷ cells) (k ∷ counts) c =
    let rest = count_at cells counts c in
    cond (eqb x c) k rest

-- the counts of so many cells from c on
unfoldable pub counts_from : List ℕ → List ℕ → ℕ → ℕ → List ℕ
counts_from cells counts c zero = []
counts_from cells counts c (suc n) = count_at cells counts c ∷ counts_from cells counts (c + 1) n

-- the table of a sheet's bytes with e entries
unfoldable pub table_of : List ℕ → ℕ → List ℕ
table_of s e = counts_from (cells_of s e) (counts_of s e) 0 table_size

-- the table of an accepted sheet
abbrev pub table_in : List ℕ → List ℕ
table_in s = table_of s (read_sheet s).e

-- what node k holds of subdomain n in a table of counts
abbrev pub held : List ℕ → ℕ → ℕ → ℕ
held table k n = at table (cell k n)
