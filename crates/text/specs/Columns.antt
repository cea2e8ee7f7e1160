-- Numbers in columns, request 2026-04: "node in 2 columns, blank, sent in 10, blank, received in 10, newline, all right-aligned." And
-- what a reader of such columns reads.
use Rattle.std.specs.Prelude.{ℕ, ◌+◌, ◌*◌, ◌-◌, List, [], ◌∷◌, ◌++◌, cond, length, replicate, eqb}
use Rattle.text.specs.Text.{blank}

-- a text in so many columns, "right-aligned": blanks stand before it
abbrev pub right_aligned : ℕ → List ℕ → List ℕ
right_aligned width text = replicate (width - length text) blank ++ text

-- the number of decimal digits, behind a number that was read before them
unfoldable pub read_from : ℕ → List ℕ → ℕ
read_from x [] = x
read_from x (d ∷ ds) = read_from (10 * x + (d - 48)) ds

-- the number of decimal digits with blanks before them
unfoldable pub read_column : List ℕ → ℕ
read_column [] = 0
read_column (b ∷ bs) =
    let rest = read_column bs in
    cond (eqb b blank) rest (read_from 0 (b ∷ bs))
