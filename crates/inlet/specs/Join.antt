-- Request 2026-02, *Join sheets*: "The gas inlet counts its new particles on a sheet of its own. Users want it joined with the resident
-- sheet before planning: two accepted sheets in, one out, every cell the sum of both."
use Rattle.std.specs.Prelude.{◌≡◌, ℕ, ◌+◌, List, [], ◌∷◌, Bool, ◌&&◌, not, eqb, ltb, length, Result}
use Rattle.limit.specs.Limit.{max_total, limit_of}
use Rattle.words.specs.Checks.{refuse_if, refuse_as}
use Rattle.words.specs.Words.{encode}
use Rattle.words.specs.Buffer.{after_call}
use Rattle.words.specs.Answer.{refused, accepted, answer_of as written_answer_of}
use Rattle.words.specs.declared.WrittenAnswer.{WrittenAnswer}
use Rattle.sheet.specs.Sheet.{read_sheet, refusal_number as sheet_number, accepted as sheet_accepted}
use Rattle.sheet.specs.Table.{table_in, held}
use Rattle.sheet.specs.Write.{filled_cells, sheet_bytes}
use Rattle.inlet.specs.declared.JoinRefusal.{JoinRefusal}
use Rattle.inlet.specs.declared.JoinRefusal.TheVariants.{Sheet as OfSheet, SheetsDiffer, Buffer}

-- ---- answers

-- the paper's number of each refusal: "the first sheet's, the second's, 51 for unequal N or t, 7 for a joint total above the maximum,
-- 52 for a short buffer." 7 is a sheet's number, so the joint total's refusal is that of a sheet.
abbrev pub number_of : JoinRefusal → ℕ
number_of (OfSheet r) = sheet_number r
number_of SheetsDiffer = 51
number_of Buffer = 52

-- the paper's number and values for each case of the enum
abbrev pub answer_of : Result ℕ JoinRefusal → WrittenAnswer
answer_of = written_answer_of number_of

-- ---- the joined sheet

-- "every cell the sum of both", of two tables
unfoldable pub sum_of : List ℕ → List ℕ → List ℕ
sum_of [] b = []
sum_of (x ∷ a) [] = []
sum_of (x ∷ a) (y ∷ b) = (x + y) ∷ sum_of a b

-- of two accepted sheets
abbrev pub joined_table : List ℕ → List ℕ → List ℕ
joined_table first second = sum_of (table_in first) (table_in second)

-- "N and t must be equal."
abbrev pub alike : List ℕ → List ℕ → Bool
alike first second = eqb (read_sheet first).n (read_sheet second).n && eqb (read_sheet first).t (read_sheet second).t

-- the joint total
abbrev pub joint_total : List ℕ → List ℕ → ℕ
joint_total first second = (read_sheet first).p + (read_sheet second).p

-- "two accepted sheets in, one out", of their N and t
unfoldable pub joined_sheet : List ℕ → List ℕ → List ℕ
joined_sheet first second = sheet_bytes (read_sheet first).n (read_sheet first).t (joined_table first second)

-- ---- the checks, in the order written, with a buffer of so many bytes

unfoldable pub join_answer : List ℕ → List ℕ → ℕ → WrittenAnswer
join_answer first second size =
    refuse_as refused (read_sheet first).refusal
    (refuse_as refused (read_sheet second).refusal
    (refuse_if (not (alike first second)) (refused 51)
    (refuse_if (ltb max_total (joint_total first second)) (refused 7)
    (refuse_if (ltb size (length (joined_sheet first second))) (refused 52)
    (accepted (length (joined_sheet first second)))))))

-- the buffer afterwards
abbrev pub joined_after : List ℕ → List ℕ → List ℕ → List ℕ
joined_after first second out = after_call (join_answer first second (length out)).refusal (joined_sheet first second) out

-- ---- demand 2, of an accepted call: what is written is read back as what was joined

pub record JoinReadBack (first second out : List ℕ) : Type 0 where
  -- it is accepted, with the N and t of both, the joint total and the limit of that total
  pub read :
      let n = (read_sheet first).n in
      let t = (read_sheet first).t in
      let p = joint_total first second in
      read_sheet out ≡ sheet_accepted n t (length (filled_cells n (joined_table first second))) p (limit_of p n t)
  -- "every cell the sum of both": whatever the holder and the subdomain, "Cells absent from the sheet count as 0"
  pub cells : (holder subdomain : ℕ)
      → held (table_in out) holder subdomain ≡ held (table_in first) holder subdomain + held (table_in second) holder subdomain

-- ---- the sheet without particles: "Sheet: N, t, E", and no entry

abbrev pub empty_sheet : ℕ → ℕ → List ℕ
empty_sheet n t = encode (n ∷ t ∷ 0 ∷ [])
