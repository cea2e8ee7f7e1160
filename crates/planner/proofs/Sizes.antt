-- Sizes of buffers that are long enough: by the sheet's N, and for every call 524 bytes for the plan and 32,264 for the moves, those of 64
-- nodes. Assumes nothing.
use mathlib.Core.Path.{◌≡◌, ap}
use mathlib.Core.Logic.{◌≢◌}
use mathlib.Core.Bool.{not}
use mathlib.Core.List.{List}
use Prim.Native.Nat.{ℕ, ◌-◌, ◌*◌, ◌≤◌}
use native.Mathlib.Decide.{ℕ_discrete, dec_lt}
use native.Mathlib.Nat.{mul-le-mul}
use native.Mathlib.Omega.{arith}
use borrow.Author.Tests.{lt-ltb, le-ltb, eq-eqb, ne_eqb}
use lib.Dec.{eqb, ltb}
use lib.ListN.{length}
use Rattle.fold.proofs.Tests.{most}
use Rattle.limit.specs.Limit.{max_nodes}
use Rattle.sheet.specs.Sheet.{read_sheet}
use Rattle.sheet.proofs.Accepted.{sheet-accepted}
use Rattle.sheet.proofs.Refusals.{sheet-most}
use Rattle.plan.specs.declared.PlanAnswer.{PlanAnswer}
use Rattle.plan.specs.Plan.{read_plan}
use Rattle.plan.specs.Kinds.{kind_number}
use Rattle.plan.specs.Write.{plan_length}
use Rattle.plan.proofs.Accepted.{plan-accepted}
use Rattle.plan.proofs.Refusals.{plan-most}
use Rattle.moves.specs.declared.MovesAnswer.{MovesAnswer}
use Rattle.moves.specs.Write.{longest_moves}
use Rattle.moves.proofs.Accepted.{moves-accepted}
use Rattle.planner.specs.declared.StepAnswer.{StepAnswer}
use Rattle.planner.specs.Step.{refused, planned, OldAnswer, old_refused, read_old, decision_in, plan_in, moves_in, written_answer, step_answer}
use Rattle.planner.proofs.ReadBack.{Plannable, records_back, done-step}

-- ---- by the sheet's N

module _ {s o : List ℕ} (d : Plannable s o) where
  pub plan-size : length (plan_in s o) ≡ plan_length (read_sheet s).n
  plan-size =
      let r = (records_back d).plan_read in
      omega (arith, (plan-accepted (plan_in s o) (ap (λ (a : PlanAnswer). a.refusal) r)).size, ap (λ (a : PlanAnswer). a.n) r)

  pub moves-size : length (moves_in s o) ≤ longest_moves (read_sheet s).n
  moves-size =
      let r = (records_back d).moves_read in
      let k = moves-accepted (moves_in s o) (ap (λ (a : MovesAnswer). a.refusal) r) in
      omega (arith, k.size, k.e_high, ap (λ (a : MovesAnswer). a.n * (a.n - 1)) r)

  -- THEOREM. Such buffers are long enough.
  pub enough : (plan_size moves_size : ℕ) → plan_length (read_sheet s).n ≤ plan_size → longest_moves (read_sheet s).n ≤ moves_size
      → step_answer s o plan_size moves_size ≡ planned (kind_number (decision_in s o).kind) (read_sheet s).limit (length (plan_in s o)) (length (moves_in s o))
  enough plan_size moves_size l m = done-step s o plan_size moves_size d (omega (arith, plan-size)) (omega (arith, moves-size))

-- the moves' length that is given, 0 in a refusal, lies within their buffer
pub moves-inside : (s o : List ℕ) (plan_size moves_size : ℕ) → (step_answer s o plan_size moves_size).moves ≤ moves_size
unfolding step_answer written_answer
moves-inside s o plan_size moves_size =
    let f : StepAnswer → ℕ = λ a. a.moves in
    let k = (read_sheet s).refusal in
    let j = (read_old o (read_sheet s).n).refusal in
    let z : 0 ≤ moves_size = omega arith in
    most f moves_size (not (eqb k 0)) (refused k) _ z
    (most f moves_size (not (eqb j 0)) (refused j) _ z
    (most f moves_size (ltb plan_size (length (plan_in s o))) (refused 22) _ z
    (elim (dec_lt moves_size (length (moves_in s o))) [
      | yes l ↦ rw (lt-ltb moves_size (length (moves_in s o)) l) z
      | no g ↦ rw (le-ltb moves_size (length (moves_in s o)) (omega (arith, g))) (omega (arith, g))
    ])))

-- ---- for every call

-- no sheet has more nodes
pub largest : (s : List ℕ) → (read_sheet s).refusal ≡ 0
    → (plan_length (read_sheet s).n ≤ plan_length max_nodes) × (longest_moves (read_sheet s).n ≤ longest_moves max_nodes)
largest s z =
    let high : (read_sheet s).n ≤ 64 = (sheet-accepted s z).n_high in
    let less : (read_sheet s).n - 1 ≤ 63 = omega arith in
    (omega arith, omega (arith, mul-le-mul high less))

old-most : (o : List ℕ) (n : ℕ) → (read_old o n).refusal ≤ 21
unfolding read_old
old-most o n =
    let f : OldAnswer → ℕ = λ a. a.refusal in
    let k = (read_plan o).refusal in
    let z : 0 ≤ 21 = omega arith in
    most f 21 (eqb (length o) 0) _ _ z
    (most f 21 (not (eqb k 0)) (old_refused k) _ (omega (arith, plan-most o))
    (most f 21 (not (eqb (read_plan o).n n)) (old_refused 21) _ (omega arith) z))

module _ (s o : List ℕ) (plan_size moves_size : ℕ) (plan_long : 524 ≤ plan_size) (moves_long : 32264 ≤ moves_size) where
  answer-most : (step_answer s o plan_size moves_size).refusal ≤ 21
  unfolding step_answer
  answer-most =
      let k = (read_sheet s).refusal in
      let j = (read_old o (read_sheet s).n).refusal in
      let f : StepAnswer → ℕ = λ a. a.refusal in
      elim (ℕ_discrete k 0) [
        | no d ↦ rw (ne_eqb k 0 d) (omega (arith, sheet-most s))
        | yes z ↦ elim (ℕ_discrete j 0) [
          | no d ↦ rw (eq-eqb k 0 z, ne_eqb j 0 d) (omega (arith, old-most o (read_sheet s).n))
          | yes y ↦
              let l = largest s z in
              omega (arith, ap f (enough (record { sheet = z; old = y }) plan_size moves_size (omega (arith, l.0)) (omega (arith, l.1))))
        ]
      ]

  -- THEOREM. A call with buffers of 524 and 32,264 bytes is never refused with 22 or 23, whatever the sheet and the old plan.
  pub never_22_23 : ((step_answer s o plan_size moves_size).refusal ≢ 22) × ((step_answer s o plan_size moves_size).refusal ≢ 23)
  never_22_23 = ((λ e. omega (arith, answer-most)), (λ e. omega (arith, answer-most)))
