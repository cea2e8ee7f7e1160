-- Document 01, *Carry out*: "takes a sheet and moves, writes the sheet that follows (same t; each cell less what it sends, plus
-- what it receives), and gives its length in bytes."
use Rattle.std.specs.Prelude.{◌≡◌, ℕ, List, ltb, length, Result}
use Rattle.words.specs.Checks.{refuse_if, refuse_as}
use Rattle.words.specs.Buffer.{after_call}
use Rattle.words.specs.declared.WrittenAnswer.{WrittenAnswer}
use Rattle.words.specs.Answer.{refused, accepted, answer_of as written_answer_of}
use Rattle.sheet.specs.Sheet.{read_sheet, accepted as sheet_accepted}
use Rattle.sheet.specs.Table.{table_in}
use Rattle.sheet.specs.Write.{filled_cells, sheet_bytes}
use Rattle.transfer.specs.Apply.{carried}
use Rattle.carry.specs.Checks.{check_number, routes_in, counts_in, checked}
use Rattle.carry.specs.declared.CarryRefusal.{CarryRefusal}
use Rattle.carry.specs.declared.CarryRefusal.TheVariants.{Check, Buffer}

-- ---- answers

-- the paper's number of each refusal: those of the checks up to 42, and "43, buffer too short"
abbrev pub number_of : CarryRefusal → ℕ
number_of (Check r) = check_number r
number_of Buffer = 43

-- the paper's number and values for each case of the enum
abbrev pub answer_of : Result ℕ CarryRefusal → WrittenAnswer
answer_of = written_answer_of number_of

-- ---- what is carried out, for a sheet s and moves m that pass the checks

-- "each cell less what it sends, plus what it receives"
abbrev pub next_table : List ℕ → List ℕ → List ℕ
next_table s m = carried (table_in s) (routes_in m) (counts_in m)

-- "the sheet that follows (same t ...)"
unfoldable pub next_sheet : List ℕ → List ℕ → List ℕ
next_sheet s m = sheet_bytes (read_sheet s).n (read_sheet s).t (next_table s m)

-- ---- the checks, in the order written, with a buffer of so many bytes

unfoldable pub carry_answer : List ℕ → List ℕ → ℕ → WrittenAnswer
carry_answer s m size =
    refuse_as refused (checked s m)
    (refuse_if (ltb size (length (next_sheet s m))) (refused 43)
    (accepted (length (next_sheet s m))))

-- the buffer afterwards
abbrev pub next_after : List ℕ → List ℕ → List ℕ → List ℕ
next_after s m out = after_call (carry_answer s m (length out)).refusal (next_sheet s m) out

-- ---- demand 2, of an accepted call: what is written is read back as what was decided

-- it is accepted, with the N, t, P and limit of s and as many entries as the table that follows has counts, and with this table
pub record SheetReadBack (s m next : List ℕ) : Type 0 where
  pub read : let entries = length (filled_cells (read_sheet s).n (next_table s m)) in
      read_sheet next ≡ sheet_accepted (read_sheet s).n (read_sheet s).t entries (read_sheet s).p (read_sheet s).limit
  pub table : table_in next ≡ next_table s m
