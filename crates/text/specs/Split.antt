-- Document 01, 'The bench program': where the sheet ends on standard input.
use Rattle.std.specs.Prelude.{ℕ, ◌+◌, ◌*◌, min, List, cond, length, eqb}
use Rattle.sheet.specs.Sheet.{read_header}

-- "Standard input is a sheet followed at once by an old plan or nothing. The sheet is the first 4 × (3+2E) bytes, or all the input
-- if that is shorter; a header refused by 1 to 4 ends the run with that number": then the sheet is all the input, which is refused
-- with that number.
unfoldable pub split_at : List ℕ → ℕ
split_at s = cond (eqb (read_header s).refusal 0) (min (4 * (3 + 2 * (read_header s).e)) (length s)) (length s)
