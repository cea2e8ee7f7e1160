-- Document 01, *Read sheet*: "gives N, t, E, P, L", and its refusals 1 to 7, from the list of a sheet's bytes.
use Rattle.std.specs.Prelude.{ℕ, ◌+◌, ◌*◌, ◌/◌, ◌%◌, List, [], ◌∷◌, Bool, cond, ◌&&◌, not, length, get_or, ltb, eqb, Err, None, Ok, Option, Result, Some}
use Rattle.fold.specs.Rising.{rising}
use Rattle.limit.specs.Limit.{max_nodes, max_tolerance, max_total, one_to, limit_of}
use Rattle.words.specs.Checks.{refuse_if, refuse_as}
use Rattle.words.specs.Words.{words, part}
use Rattle.sheet.specs.declared.SheetRefusal.{SheetRefusal}
use Rattle.sheet.specs.declared.SheetRefusal.TheVariants.{Short, Nodes, Tolerance, Entries, Length, Cell, Count}
use Rattle.sheet.specs.declared.SheetAnswer.{SheetAnswer}
use Rattle.sheet.specs.declared.Sheet.{Sheet}
use Rattle.sheet.specs.declared.Header.{Header}

-- ---- answers: "An answer carries 0 or a refusal number, and the values named. A refusal's other values are all 0"

abbrev pub refused : ℕ → SheetAnswer
refused k = record { refusal = k; n = 0; t = 0; e = 0; p = 0; limit = 0 }

abbrev pub accepted : ℕ → ℕ → ℕ → ℕ → ℕ → SheetAnswer
accepted n t e p limit = record { refusal = 0; n = n; t = t; e = e; p = p; limit = limit }

-- the paper's number of each refusal
abbrev pub refusal_number : SheetRefusal → ℕ
refusal_number Short = 1
refusal_number Nodes = 2
refusal_number Tolerance = 3
refusal_number Entries = 4
refusal_number Length = 5
refusal_number Cell = 6
refusal_number Count = 7

-- the paper's number and values for each case of the enum
abbrev pub answer_of : Result Sheet SheetRefusal → SheetAnswer
answer_of (Ok h) = accepted h.n h.t h.e h.p h.limit
answer_of (Err r) = refused (refusal_number r)

-- ---- the record: "Sheet: N, t, E; E cells; E counts."

abbrev pub cells_of : List ℕ → ℕ → List ℕ
cells_of s e = part 3 e (words s)

abbrev pub counts_of : List ℕ → ℕ → List ℕ
counts_of s e = part (3 + e) e (words s)

-- "A cell is holder × 64 + subdomain."
abbrev pub cell : ℕ → ℕ → ℕ
cell holder subdomain = 64 * holder + subdomain

-- it names two nodes below n
abbrev pub cell_fine : ℕ → ℕ → Bool
cell_fine n c = ltb (c / 64) n && ltb (c % 64) n

-- "a count of 0 or a running sum above 1,000,000,000": the running sum from sum on, or None
unfoldable pub running_sum : ℕ → List ℕ → Option ℕ
running_sum sum [] = Some sum
running_sum sum (c ∷ cs) =
    let rest = running_sum (sum + c) cs in
    cond (eqb c 0) None (cond (ltb max_total (sum + c)) None rest)

-- ---- the checks, in the order written

-- N, t and E of a header, or why it is refused
pub record HeaderAnswer : Type 0 where
  pub refusal : ℕ
  pub n : ℕ
  pub t : ℕ
  pub e : ℕ

abbrev pub header_refused : ℕ → HeaderAnswer
header_refused k = record { refusal = k; n = 0; t = 0; e = 0 }

abbrev pub header_accepted : ℕ → ℕ → ℕ → HeaderAnswer
header_accepted n t e = record { refusal = 0; n = n; t = t; e = e }

-- the same for each case of the enum
abbrev pub header_of : Result Header SheetRefusal → HeaderAnswer
header_of (Ok h) = header_accepted h.n h.t h.e
header_of (Err r) = header_refused (refusal_number r)

-- 2 to 4, with the words N, t and E
abbrev pub ranges_answer : ℕ → ℕ → ℕ → HeaderAnswer
ranges_answer n t e =
    refuse_if (not (one_to max_nodes n)) (header_refused 2)
    (refuse_if (not (one_to max_tolerance t)) (header_refused 3)
    (refuse_if (ltb (n * n) e) (header_refused 4)
    (header_accepted n t e)))

-- 1 to 4, which look at the header alone
unfoldable pub read_header : List ℕ → HeaderAnswer
read_header s =
    refuse_if (ltb (length s) 12) (header_refused 1)
    (ranges_answer (get_or (words s) 0 0) (get_or (words s) 1 0) (get_or (words s) 2 0))

-- 7, or the values
abbrev pub summed_answer : ℕ → ℕ → ℕ → Option ℕ → SheetAnswer
summed_answer n t e (Some p) = accepted n t e p (limit_of p n t)
summed_answer n t e None = refused 7

-- 5 to 7: "All cells come before all counts."
abbrev pub entries_answer : List ℕ → ℕ → ℕ → ℕ → SheetAnswer
entries_answer s n t e =
    refuse_if (not (eqb (length s) (4 * (3 + 2 * e)))) (refused 5)
    (refuse_if (not (rising (cell_fine n) 0 (cells_of s e))) (refused 6)
    (summed_answer n t e (running_sum 0 (counts_of s e))))

unfoldable pub read_sheet : List ℕ → SheetAnswer
read_sheet s =
    let h = read_header s in
    refuse_as refused h.refusal (entries_answer s h.n h.t h.e)
