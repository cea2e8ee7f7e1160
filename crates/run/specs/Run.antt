-- Document 01, 'The bench program': from the bytes of standard input to the bytes of standard output.
use Rattle.std.specs.Prelude.{cond, List, ℕ, ◌+◌, eqb, take, drop}
use Rattle.limit.specs.Limit.{max_nodes}
use Rattle.sheet.specs.Write.{longest_sheet}
use Rattle.plan.specs.Write.{plan_length}
use Rattle.moves.specs.Write.{longest_moves}
use Rattle.arrays.specs.Arrays.{at, tabulate}
use Rattle.plan.specs.Plan.{read_plan, helpands_of, shares_of}
use Rattle.moves.specs.Moves.{read_moves, routes_of, counts_of}
use Rattle.tree.specs.Division.{own_of}
use Rattle.sheet.specs.Totals.{totals_in}
use Rattle.planner.specs.declared.StepAnswer.{StepAnswer}
use Rattle.planner.specs.Step.{step_answer, plan_in, moves_in}
use Rattle.text.specs.Text.{step_text, refused_text}
use Rattle.text.specs.Split.{split_at}

-- ---- the plan p and the moves m that *plan a step* wrote for a sheet s

-- "amount of its own subdomain": "Pn less those shares for the owner"
abbrev pub own_in : List ℕ → ℕ → List ℕ → List ℕ → List ℕ
own_in s n helpands shares = tabulate n (own_of n (at helpands) (at (totals_in s)) (at shares))

-- "Line 1: kind and L." The node lines and the move lines say what stands in the two records.
unfoldable pub records_text : List ℕ → List ℕ → List ℕ → List ℕ
records_text s p m =
    let n = (read_plan p).n in
    let e = (read_moves m).e in
    step_text (read_plan p).kind (read_plan p).limit n (helpands_of p n) (shares_of p n) (own_in s n (helpands_of p n) (shares_of p n))
    e (routes_of m e) (counts_of m e)

-- ---- a step, for a sheet s and an old plan o

-- buffers that are long enough for every plan, 524 bytes, and for all moves, 32,264
abbrev pub plan_size : ℕ
plan_size = plan_length max_nodes

abbrev pub moves_size : ℕ
moves_size = longest_moves max_nodes

abbrev pub answer_in : List ℕ → List ℕ → StepAnswer
answer_in s o = step_answer s o plan_size moves_size

-- "A refusal prints only `refused 5` with its number."
unfoldable pub text_in : List ℕ → List ℕ → List ℕ
text_in s o = cond (eqb (answer_in s o).refusal 0) (records_text s (plan_in s o) (moves_in s o)) (refused_text (answer_in s o).refusal)

-- ---- a run

-- "Standard input is a sheet followed at once by an old plan or nothing."
unfoldable pub run_text : List ℕ → List ℕ
run_text input = text_in (take (split_at input) input) (drop (split_at input) input)

-- the longest input that can be accepted has 33,304 bytes; of a longer one the first 33,305 decide what is printed
abbrev pub front_size : ℕ
front_size = longest_sheet max_nodes + plan_length max_nodes + 1

-- as many bytes as no run exceeds: at most 64 for each of 1 + 64 + 64 × 63 lines
abbrev pub text_size : ℕ
text_size = 262208
