-- Document 01, *Plan a step*: "takes a sheet and an old plan, which may have length 0, and writes plan and moves. It gives kind, L and
-- both lengths in bytes."
use Rattle.std.specs.Prelude.{◌≡◌, Bool, false, cond, not, List, ℕ, eqb, ltb, length, take, Err, Ok, Result}
use Rattle.arrays.specs.Arrays.{padded, at}
use Rattle.words.specs.Checks.{refuse_if, refuse_as}
use Rattle.words.specs.Buffer.{after_call}
use Rattle.sheet.specs.Sheet.{read_sheet, refusal_number as sheet_number}
use Rattle.sheet.specs.Table.{table_in}
use Rattle.plan.specs.Plan.{read_plan, helpands_of, shares_of, refusal_number as plan_number, accepted as plan_accepted}
use Rattle.plan.specs.Kinds.{kind_number}
use Rattle.plan.specs.Write.{plan_bytes}
use Rattle.moves.specs.Moves.{read_moves, routes_of, counts_of, accepted as moves_accepted}
use Rattle.moves.specs.Write.{moves_bytes}
use Rattle.transfer.specs.Due.{due_of}
use Rattle.transfer.specs.Matching.{all_routes, all_counts}
use Rattle.sheet.specs.Totals.{totals_in}
use Rattle.decide.specs.declared.Decision.{Decision}
use Rattle.decide.specs.Decide.{own_numbers, decided}
use Rattle.planner.specs.declared.StepRefusal.{StepRefusal}
use Rattle.planner.specs.declared.StepRefusal.TheVariants.{Sheet as OfSheet, Plan as OfPlan, NodesDiffer, PlanBuffer, MovesBuffer}
use Rattle.planner.specs.declared.StepAnswer.{StepAnswer}
use Rattle.planner.specs.declared.PlannedStep.{PlannedStep}

-- ---- answers

abbrev pub refused : ℕ → StepAnswer
refused k = record { refusal = k; kind = 0; limit = 0; plan = 0; moves = 0 }

abbrev pub planned : ℕ → ℕ → ℕ → ℕ → StepAnswer
planned kind limit plan_size moves_size = record { refusal = 0; kind = kind; limit = limit; plan = plan_size; moves = moves_size }

-- the paper's number of each refusal: "the sheet's; the plan's; 21; 22, plan buffer too short; 23, moves buffer too short"
abbrev pub number_of : StepRefusal → ℕ
number_of (OfSheet r) = sheet_number r
number_of (OfPlan r) = plan_number r
number_of NodesDiffer = 21
number_of PlanBuffer = 22
number_of MovesBuffer = 23

-- the paper's number and values for each case of the enum
abbrev pub answer_of : Result PlannedStep StepRefusal → StepAnswer
answer_of (Ok p) = planned (kind_number p.kind) p.limit p.plan p.moves
answer_of (Err r) = refused (number_of r)

-- ---- the old plan, "which may have length 0"

-- whether it is refused, and whether it has a tree
pub record OldAnswer : Type 0 where
  pub refusal : ℕ
  pub tree : Bool

abbrev pub old_refused : ℕ → OldAnswer
old_refused k = record { refusal = k; tree = false }

abbrev pub old_read : Bool → OldAnswer
old_read tree = record { refusal = 0; tree = tree }

abbrev pub old_of : Result Bool StepRefusal → OldAnswer
old_of (Ok tree) = old_read tree
old_of (Err r) = old_refused (number_of r)

-- the old plan beside a sheet of n nodes: "the plan's; 21". "An empty or kind 0 old plan has no old tree."
unfoldable pub read_old : List ℕ → ℕ → OldAnswer
read_old o n =
    cond (eqb (length o) 0) (old_read false)
    (refuse_as old_refused (read_plan o).refusal
    (refuse_if (not (eqb (read_plan o).n n)) (old_refused 21)
    (old_read (not (eqb (read_plan o).kind 0)))))

-- the helpands of the old tree; without one each node is its own
abbrev pub old_helpands : List ℕ → Bool → ℕ → List ℕ
old_helpands o tree n = cond tree (padded (helpands_of o n)) (own_numbers n)

-- ---- what is decided, for a sheet s and an old plan o that are accepted

unfoldable pub decision_in : List ℕ → List ℕ → Decision
decision_in s o =
    let n = (read_sheet s).n in
    let tree = (read_old o n).tree in
    decided n (read_sheet s).p (read_sheet s).limit (table_in s) (totals_in s) tree (old_helpands o tree n)

-- the plan: "A plan written carries L as its limit."
abbrev pub plan_record : ℕ → ℕ → Decision → List ℕ
plan_record n limit d = plan_bytes n (kind_number d.kind) limit d.helpands d.shares

unfoldable pub plan_in : List ℕ → List ℕ → List ℕ
plan_in s o = plan_record (read_sheet s).n (read_sheet s).limit (decision_in s o)

-- what node k is due of subdomain n
abbrev pub due_in : ℕ → List ℕ → Decision → ℕ → ℕ → ℕ
due_in nodes totals d = due_of nodes (at d.helpands) (at totals) (at d.shares)

-- the moves: routes and counts
abbrev pub decided_routes : List ℕ → List ℕ → List ℕ
decided_routes s o = all_routes (read_sheet s).n (table_in s) (due_in (read_sheet s).n (totals_in s) (decision_in s o))

abbrev pub decided_counts : List ℕ → List ℕ → List ℕ
decided_counts s o = all_counts (read_sheet s).n (table_in s) (due_in (read_sheet s).n (totals_in s) (decision_in s o))

abbrev pub moves_record : ℕ → List ℕ → List ℕ → List ℕ
moves_record n routes counts = moves_bytes n (length routes) routes counts

unfoldable pub moves_in : List ℕ → List ℕ → List ℕ
moves_in s o = moves_record (read_sheet s).n (decided_routes s o) (decided_counts s o)

-- ---- the checks, in the order written

-- 22 and 23, for a plan and moves to be written to buffers of so many bytes
unfoldable pub written_answer : ℕ → ℕ → List ℕ → List ℕ → ℕ → ℕ → StepAnswer
written_answer kind limit plan moves plan_size moves_size =
    refuse_if (ltb plan_size (length plan)) (refused 22)
    (refuse_if (ltb moves_size (length moves)) (refused 23)
    (planned kind limit (length plan) (length moves)))

-- "A refused sheet ends planning before the old plan is looked at."
unfoldable pub step_answer : List ℕ → List ℕ → ℕ → ℕ → StepAnswer
step_answer s o plan_size moves_size =
    refuse_as refused (read_sheet s).refusal
    (refuse_as refused (read_old o (read_sheet s).n).refusal
    (written_answer (kind_number (decision_in s o).kind) (read_sheet s).limit (plan_in s o) (moves_in s o) plan_size moves_size))

-- the two buffers afterwards, each with the other's length
abbrev pub plan_after : List ℕ → List ℕ → List ℕ → ℕ → List ℕ
plan_after s o plan moves_size = after_call (step_answer s o (length plan) moves_size).refusal (plan_in s o) plan

abbrev pub moves_after : List ℕ → List ℕ → List ℕ → ℕ → List ℕ
moves_after s o moves plan_size = after_call (step_answer s o plan_size (length moves)).refusal (moves_in s o) moves

-- ---- demand 2, of an accepted call: each record is read back as what was decided

pub record StepReadBack (s o plan moves : List ℕ) : Type 0 where
  -- "Plan: N, kind, limit; N helpands; N shares."
  pub plan_read : read_plan plan ≡ plan_accepted (read_sheet s).n (kind_number (decision_in s o).kind) (read_sheet s).limit
  pub helpands : helpands_of plan (read_sheet s).n ≡ take (read_sheet s).n (decision_in s o).helpands
  pub shares : shares_of plan (read_sheet s).n ≡ take (read_sheet s).n (decision_in s o).shares
  -- "Moves: N, E; E routes; E counts."
  pub moves_read : read_moves moves ≡ moves_accepted (read_sheet s).n (length (decided_routes s o))
  pub routes : routes_of moves (length (decided_routes s o)) ≡ decided_routes s o
  pub counts : counts_of moves (length (decided_routes s o)) ≡ decided_counts s o
