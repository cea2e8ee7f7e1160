-- The traffic page of step D, by computation: node 0 sends 27 particles to node 1 and 29 to node 2. Assumes nothing.
use mathlib.Core.Path.{◌≡◌, refl}
use mathlib.Core.List.{List, [], ◌∷◌, ◌++◌}
use Prim.Native.Nat.{ℕ}
use Rattle.fold.specs.Sum.{sum}
use Rattle.fold.specs.Collect.{collect}
use Rattle.fold.specs.Rising.{rising}
use Rattle.fold.specs.All.{every}
use Rattle.limit.specs.Limit.{limit_of}
use Rattle.words.specs.Words.{words, encode}
use Rattle.words.specs.Answer.{accepted}
use Rattle.sheet.specs.Sheet.{running_sum, read_header, read_sheet}
use Rattle.sheet.specs.Table.{count_at, counts_from, table_of}
use Rattle.moves.specs.Moves.{read_moves}
use Rattle.transfer.specs.Apply.{moved, within_from}
use Rattle.carry.specs.Checks.{checked}
use Rattle.text.specs.Text.{digits, ascii, newline}
use Rattle.traffic.specs.Page.{line, page_of, page_in, page_answer}

abbrev sheet : List ℕ
sheet = encode (3 ∷ 100 ∷ 3 ∷ 0 ∷ 65 ∷ 130 ∷ 90 ∷ 6 ∷ 4 ∷ [])

abbrev moves : List ℕ
moves = encode (3 ∷ 2 ∷ 1 ∷ 2 ∷ 27 ∷ 29 ∷ [])

abbrev page : List ℕ
page =
    ascii " 0         56          0" ++ (newline ∷ [])
    ++ (ascii " 1          0         27" ++ (newline ∷ []))
    ++ (ascii " 2          0         29" ++ (newline ∷ []))
    ++ (ascii "==         56         56" ++ (newline ∷ []))

pub page_D : page_in sheet moves ≡ page
unfolding page_of line collect sum moved digits read_sheet read_header read_moves words encode rising every running_sum limit_of
page_D = refl

-- they pass the checks
pub page_D_checked : checked sheet moves ≡ 0
unfolding checked within_from moved table_of counts_from count_at read_sheet read_header read_moves words encode rising every running_sum limit_of
page_D_checked = refl

-- and 100 bytes are long enough for the page
pub page_D_answered : page_answer sheet moves 100 ≡ accepted 100
unfolding page_answer read_sheet read_header words encode rising running_sum limit_of
page_D_answered = rw page_D_checked
