-- The sheet of a table of counts: "Sheet: N, t, E; E cells; E counts", cells rising, counts at least 1.
use Rattle.std.specs.Prelude.{ℕ, ◌+◌, ◌*◌, List, [], ◌∷◌, ◌++◌, map, cond, eqb, length, get_or}
use Rattle.fold.specs.Collect.{collect}
use Rattle.words.specs.Words.{encode}

-- cell c, if its count is not 0
unfoldable pub filled : List ℕ → ℕ → List ℕ
filled table c = cond (eqb (get_or table c 0) 0) [] (c ∷ [])

-- the cells of holders below n whose count is not 0, by rising number
abbrev pub filled_cells : ℕ → List ℕ → List ℕ
filled_cells n table = collect (64 * n) (filled table)

-- and their counts
abbrev pub filled_counts : ℕ → List ℕ → List ℕ
filled_counts n table = map (λ c. get_or table c 0) (filled_cells n table)

abbrev pub sheet_words : ℕ → ℕ → List ℕ → List ℕ
sheet_words n t table = (n ∷ t ∷ length (filled_cells n table) ∷ []) ++ filled_cells n table ++ filled_counts n table

unfoldable pub sheet_bytes : ℕ → ℕ → List ℕ → List ℕ
sheet_bytes n t table = encode (sheet_words n t table)

-- the length in bytes of the longest sheet of n nodes: "E above N × N" is refused
abbrev pub longest_sheet : ℕ → ℕ
longest_sheet n = 4 * (3 + 2 * (n * n))
