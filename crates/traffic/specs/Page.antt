-- Request 2026-04, *Traffic page*: "The shift desk pins up each step's traffic. From a sheet and moves that *carry out* would accept,
-- buffer aside, write N lines of 25 bytes".
use Rattle.std.specs.Prelude.{◌≡◌, ℕ, ◌+◌, ◌*◌, ◌<◌, List, [], ◌∷◌, ◌++◌, ltb, length, Result}
use Rattle.fold.specs.Sum.{sum, total}
use Rattle.fold.specs.Collect.{collect}
use Rattle.words.specs.Words.{part}
use Rattle.words.specs.Checks.{refuse_if, refuse_as}
use Rattle.words.specs.Buffer.{after_call}
use Rattle.words.specs.declared.WrittenAnswer.{WrittenAnswer}
use Rattle.words.specs.Answer.{refused, accepted, answer_of as written_answer_of}
use Rattle.sheet.specs.Sheet.{read_sheet}
use Rattle.sheet.specs.Table.{table_in, held}
use Rattle.moves.specs.Moves.{sender, receiver}
use Rattle.transfer.specs.Apply.{moved}
use Rattle.carry.specs.Checks.{check_number, routes_in, counts_in, checked}
use Rattle.text.specs.Text.{decimal, ascii, blank, newline}
use Rattle.text.specs.Columns.{right_aligned, read_column}
use Rattle.traffic.specs.declared.PageRefusal.{PageRefusal}
use Rattle.traffic.specs.declared.PageRefusal.TheVariants.{Check, Buffer}

-- ---- answers

-- the paper's number of each refusal: "those of *carry out* up to 42, then 53 for a buffer under 25 × (N+1) bytes"
abbrev pub number_of : PageRefusal → ℕ
number_of (Check r) = check_number r
number_of Buffer = 53

-- the paper's number and values for each case of the enum
abbrev pub answer_of : Result ℕ PageRefusal → WrittenAnswer
answer_of = written_answer_of number_of

-- ---- the traffic of moves: each node's sent and received, over all subdomains and partners

-- the counts of all moves whose sender is node k, added up
abbrev pub sent_by : List ℕ → ℕ → ℕ
sent_by m k = moved sender (routes_in m) (counts_in m) k

-- and of all whose receiver it is
abbrev pub received_by : List ℕ → ℕ → ℕ
received_by m k = moved receiver (routes_in m) (counts_in m) k

-- ---- the page, of n nodes that have sent and received so much

-- "node in 2 columns, blank, sent in 10, blank, received in 10, newline, all right-aligned"
unfoldable pub line : List ℕ → ℕ → ℕ → List ℕ
line node sent received =
    right_aligned 2 node ++ (blank ∷ right_aligned 10 (decimal sent)) ++ (blank ∷ right_aligned 10 (decimal received)) ++ (newline ∷ [])

-- "N lines", one for each node
abbrev pub node_lines : ℕ → (ℕ → ℕ) → (ℕ → ℕ) → List ℕ
node_lines n sent received = collect n (λ k. line (decimal k) (sent k) (received k))

-- "A last line has `==` for the node and the two totals."
abbrev pub last_line : ℕ → (ℕ → ℕ) → (ℕ → ℕ) → List ℕ
last_line n sent received = line (ascii "==") (sum n sent) (sum n received)

unfoldable pub page_of : ℕ → (ℕ → ℕ) → (ℕ → ℕ) → List ℕ
page_of n sent received = node_lines n sent received ++ last_line n sent received

-- of a sheet s and moves m that pass the checks
abbrev pub page_in : List ℕ → List ℕ → List ℕ
page_in s m = page_of (read_sheet s).n (sent_by m) (received_by m)

-- ---- the checks, in the order written, with a buffer of so many bytes

-- "25 × (N+1) bytes"
abbrev pub page_size : ℕ → ℕ
page_size n = 25 * (n + 1)

-- "Checks: those of *carry out* up to 42, then 53 for a buffer under 25 × (N+1) bytes."
unfoldable pub page_answer : List ℕ → List ℕ → ℕ → WrittenAnswer
page_answer s m size =
    refuse_as refused (checked s m)
    (refuse_if (ltb size (page_size (read_sheet s).n)) (refused 53)
    (accepted (page_size (read_sheet s).n)))

-- the buffer afterwards
abbrev pub page_after : List ℕ → List ℕ → List ℕ → List ℕ
page_after s m out = after_call (page_answer s m (length out)).refusal (page_in s m) out

-- ---- what a reader of the page reads

-- its line number k, and the columns of a line
abbrev pub line_at : List ℕ → ℕ → List ℕ
line_at page k = part (25 * k) 25 page

abbrev pub node_column : List ℕ → List ℕ
node_column l = part 0 2 l

abbrev pub sent_column : List ℕ → List ℕ
sent_column l = part 3 10 l

abbrev pub received_column : List ℕ → List ℕ
received_column l = part 14 10 l

-- demand 2, of an accepted call: what is written is read back as the traffic of the moves
pub record PageReadBack (s m page : List ℕ) : Type 0 where
  pub size : length page ≡ page_size (read_sheet s).n
  -- each node's line has the node and its two numbers, as decimal digits with blanks before them
  pub node : (k : ℕ) → k < (read_sheet s).n → read_column (node_column (line_at page k)) ≡ k
  pub sent : (k : ℕ) → k < (read_sheet s).n → read_column (sent_column (line_at page k)) ≡ sent_by m k
  pub received : (k : ℕ) → k < (read_sheet s).n → read_column (received_column (line_at page k)) ≡ received_by m k
  -- the last line has `==`
  pub last : node_column (line_at page (read_sheet s).n) ≡ ascii "=="
  -- "Both printed totals must equal the sum of the counts in the moves record."
  pub total_sent : read_column (sent_column (line_at page (read_sheet s).n)) ≡ total (counts_in m)
  pub total_received : read_column (received_column (line_at page (read_sheet s).n)) ≡ total (counts_in m)

-- ---- what the page says of the sheet that follows

-- what node k holds of all subdomains on an accepted sheet
abbrev pub holding : List ℕ → ℕ → ℕ
holding s k = sum (read_sheet s).n (λ n. held (table_in s) k n)

-- *Carry out*: "each cell less what it sends, plus what it receives". So on the sheet `next` that follows each node holds what it held on
-- s, less the number in its column of sent, plus that in its column of received.
pub record PageCarried (s page next : List ℕ) : Type 0 where
  pub holds : (k : ℕ) → k < (read_sheet s).n
      → holding next k + read_column (sent_column (line_at page k)) ≡ holding s k + read_column (received_column (line_at page k))
