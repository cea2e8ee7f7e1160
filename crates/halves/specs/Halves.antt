-- Request 2026-10, the rest of its sentence: "With long enough buffers, show that where the whole list is carried out, either list first
-- and then the other gives the same sheet, and that the whole is refused with 42 exactly when at least one part is refused with 42 on the
-- first sheet." *Carry out* is what document 01 says that it is: its answer and its buffer.
use Rattle.std.specs.Prelude.{◌≡◌, ◌⊎◌, ◌↔◌, List, ℕ, ◌≤◌, length}
use Rattle.words.specs.declared.WrittenAnswer.{WrittenAnswer}
use Rattle.sheet.specs.Sheet.{read_sheet}
use Rattle.sheet.specs.Write.{longest_sheet}
use Rattle.moves.specs.Moves.{read_moves}
use Rattle.carry.specs.Carry.{carry_answer, next_after}
use Rattle.halves.specs.Parts.{Parts}

-- "long enough buffers": for the longest sheet of N nodes, 4 × (3+2N²) bytes
abbrev pub LongEnough : List ℕ → List ℕ → Type 0
LongEnough s buffer = longest_sheet (read_sheet s).n ≤ length buffer

-- Part a is carried out on the sheet s, with a buffer of so many bytes, and answered with c; then part b on the sheet that follows, answered
-- with d, which leaves `next` in the last buffer. The whole list with that buffer would be answered with `whole`, and leave `left` in it.
pub record Halves (s a b : List ℕ) (size : ℕ) (whole c d : WrittenAnswer) (left next : List ℕ) : Type 0 where
  -- both parts are accepted by *read moves*
  pub first_read : (read_moves a).refusal ≡ 0
  pub second_read : (read_moves b).refusal ≡ 0
  -- "where the whole list is carried out, [one] list first and then the other gives the same sheet": with the same length, byte for byte
  pub carried : whole.refusal ≡ 0 → (c.refusal ≡ 0) × (d ≡ whole) × (next ≡ left)
  -- "the whole is refused with 42 exactly when at least one part is refused with 42 on the first sheet"
  pub refused : (whole.refusal ≡ 42) ↔ (((carry_answer s a size).refusal ≡ 42) ⊎ ((carry_answer s b size).refusal ≡ 42))
  -- and more than was asked: where the first part is carried out, the second call is answered as the whole list is, refusals too
  pub after_first : c.refusal ≡ 0 → (d ≡ whole) × (next ≡ left)

-- REQUEST 2026-10, of part a first and then part b, with the buffers x and y: for every list of moves that these are parts of, and a
-- buffer x long enough for the sheet between them. Where the last sheet does not fit in y, the whole list is not carried out either.
abbrev pub HalfFirst : List ℕ → List ℕ → List ℕ → List ℕ → List ℕ → WrittenAnswer → WrittenAnswer → List ℕ → Type 0
HalfFirst s a b x y c d next =
    (m : List ℕ) → Parts s m a b → LongEnough s x
    → Halves s a b (length x) (carry_answer s m (length y)) c d (next_after s m y) next
