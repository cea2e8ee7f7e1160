-- Document 01, *Read moves*: "gives N, E", and its refusals 31 to 36, from the list of the moves' bytes.
use Rattle.std.specs.Prelude.{ℕ, ◌+◌, ◌-◌, ◌*◌, ◌/◌, ◌%◌, List, Bool, ◌&&◌, not, length, get_or, ltb, leb, eqb, Err, Ok, Result}
use Rattle.fold.specs.All.{every}
use Rattle.fold.specs.Rising.{rising}
use Rattle.limit.specs.Limit.{max_nodes, max_total, one_to}
use Rattle.words.specs.Checks.{refuse_if}
use Rattle.words.specs.Words.{words, part}
use Rattle.moves.specs.declared.MovesRefusal.{MovesRefusal}
use Rattle.moves.specs.declared.MovesRefusal.TheVariants.{Short, Nodes, Entries, Length, Route, Count}
use Rattle.moves.specs.declared.MovesAnswer.{MovesAnswer}
use Rattle.moves.specs.declared.Moves.{Moves}

-- ---- answers: "An answer carries 0 or a refusal number, and the values named. A refusal's other values are all 0"

abbrev pub refused : ℕ → MovesAnswer
refused k = record { refusal = k; n = 0; e = 0 }

abbrev pub accepted : ℕ → ℕ → MovesAnswer
accepted n e = record { refusal = 0; n = n; e = e }

-- the paper's number of each refusal
abbrev pub refusal_number : MovesRefusal → ℕ
refusal_number Short = 31
refusal_number Nodes = 32
refusal_number Entries = 33
refusal_number Length = 34
refusal_number Route = 35
refusal_number Count = 36

-- the paper's number and values for each case of the enum
abbrev pub answer_of : Result Moves MovesRefusal → MovesAnswer
answer_of (Ok m) = accepted m.n m.e
answer_of (Err r) = refused (refusal_number r)

-- ---- the record: "Moves: N, E; E routes; E counts."

abbrev pub routes_of : List ℕ → ℕ → List ℕ
routes_of s e = part 2 e (words s)

abbrev pub counts_of : List ℕ → ℕ → List ℕ
counts_of s e = part (2 + e) e (words s)

-- "A route is subdomain × 4,096 + sender × 64 + receiver."
abbrev pub route : ℕ → ℕ → ℕ → ℕ
route n s r = n * 4096 + s * 64 + r

-- its parts
abbrev pub subdomain : ℕ → ℕ
subdomain r = r / 4096

abbrev pub sender : ℕ → ℕ
sender r = r / 64 % 64

abbrev pub receiver : ℕ → ℕ
receiver r = r % 64

-- it names nodes below n, and its sender is not its receiver
abbrev pub route_fine : ℕ → ℕ → Bool
route_fine n r = ltb (subdomain r) n && (ltb (sender r) n && (ltb (receiver r) n && not (eqb (sender r) (receiver r))))

-- not "a count of 0 or above 1,000,000,000"
abbrev pub count_fine : ℕ → Bool
count_fine k = ltb 0 k && leb k max_total

-- ---- the checks, in the order written

-- 35 and 36: "Routes come before counts."
abbrev pub entries_answer : List ℕ → ℕ → ℕ → MovesAnswer
entries_answer s n e =
    refuse_if (not (rising (route_fine n) 0 (routes_of s e))) (refused 35)
    (refuse_if (not (every count_fine (counts_of s e))) (refused 36)
    (accepted n e))

-- 32 to 34, with the words N and E of moves of at least 8 bytes
abbrev pub head_answer : List ℕ → ℕ → ℕ → MovesAnswer
head_answer s n e =
    refuse_if (not (one_to max_nodes n)) (refused 32)
    (refuse_if (ltb (n * (n - 1)) e) (refused 33)
    (refuse_if (not (eqb (length s) (4 * (2 + 2 * e)))) (refused 34)
    (entries_answer s n e)))

unfoldable pub read_moves : List ℕ → MovesAnswer
read_moves s =
    refuse_if (ltb (length s) 8) (refused 31)
    (head_answer s (get_or (words s) 0 0) (get_or (words s) 1 0))
