-- What a planned step gives can be printed: both records are read back as what was decided, and the two buffers are never too short.
-- Assumes nothing.
use mathlib.Core.Path.{◌≡◌, refl, sym, ap, ◌∙◌}
use mathlib.Core.Logic.{◌≢◌}
use mathlib.Core.List.{List}
use Prim.Native.Nat.{ℕ, ◌≤◌}
use native.Mathlib.Decide.{ℕ_discrete}
use native.Mathlib.Omega.{arith}
use borrow.Author.Tests.{ne_eqb}
use lib.ListN.{length, take}
use lib.Seq.{get_or-take}
use Rattle.arrays.specs.Arrays.{at}
use Rattle.sheet.specs.Sheet.{read_sheet}
use Rattle.sheet.specs.Totals.{totals_in}
use Rattle.plan.specs.declared.PlanAnswer.{PlanAnswer}
use Rattle.plan.specs.Plan.{read_plan}
use Rattle.plan.specs.Kinds.{kind_number}
use Rattle.plan.proofs.Accepted.{plan-accepted}
use Rattle.moves.specs.declared.MovesAnswer.{MovesAnswer}
use Rattle.moves.specs.Moves.{read_moves}
use Rattle.tree.specs.Family.{over_helpers}
use Rattle.tree.proofs.Families.{helpers_agree}
use Rattle.transfer.specs.Inner.{Allotted}
use Rattle.planner.specs.declared.StepAnswer.{StepAnswer}
use Rattle.planner.specs.Step.{planned, decision_in, plan_in, moves_in, step_answer, plan_after, moves_after}
use Rattle.planner.proofs.Records.{allotted}
use Rattle.planner.proofs.ReadBack.{Plannable, was_read, records_back, step-done, done-step}
use Rattle.text.specs.Text.{refused_text}
use Rattle.text.proofs.Lengths.{refused-le, step_fits}
use Rattle.run.specs.Run.{records_text, answer_in, text_in, plan_size, moves_size, text_size}
use Rattle.run.specs.Inner.{Printable}
use Rattle.run.proofs.Front.{Front, front_of}
use Rattle.run.proofs.Lines.{moves-few}

-- ---- the two texts

module _ (s o : List ℕ) where
  pub text_planned : (answer_in s o).refusal ≡ 0 → text_in s o ≡ records_text s (plan_in s o) (moves_in s o)
  unfolding text_in
  text_planned e = rw e

  pub text_refused : (k : ℕ) → k ≡ (answer_in s o).refusal → k ≢ 0 → text_in s o ≡ refused_text k
  unfolding text_in
  text_refused k e d = rw (← e, ne_eqb k 0 d)

-- ---- the front of helpands and shares is enough

allotted-front : (n : ℕ) (h share : List ℕ) (total : ℕ → ℕ) → Allotted n (at h) total (at share)
    → Allotted n (at (take n h)) total (at (take n share))
allotted-front n h share total a =
    record { inside = λ k l. omega (arith, get_or-take n h k 0 l, a.inside k l); enough = λ m l. omega (arith, same m, a.enough m l) }
  where
    same : (m : ℕ) → over_helpers n (at (take n h)) m (at (take n share)) ≡ over_helpers n (at h) m (at share)
    same =
        helpers_agree n (at (take n h)) (at h) (at (take n share)) (at share) (λ k l. get_or-take n h k 0 l) (λ k l. get_or-take n share k 0 l)

-- THEOREM. What is planned can be printed.
pub printable : (s o : List ℕ) → Plannable s o → Printable s (plan_in s o) (moves_in s o)
printable s o d =
    let back = records_back d in
    let nodes = ap (λ (a : PlanAnswer). a.n) back.plan_read in
    let h = (decision_in s o).helpands in
    let share = (decision_in s o).shares in
    record {
      sheet = d.sheet;
      plan = ap (λ (a : PlanAnswer). a.refusal) back.plan_read;
      moves = ap (λ (a : MovesAnswer). a.refusal) back.moves_read;
      nodes = nodes;
      allotted =
          rw (nodes, back.helpands, back.shares)
          (allotted-front (read_sheet s).n h share (at (totals_in s)) (allotted (was_read d)));
    }

-- ---- the length of the text

records_fit : (s p m : List ℕ) → Printable s p m → length (records_text s p m) ≤ text_size
unfolding records_text
records_fit s p m g =
    step_fits (read_plan p).kind (read_plan p).limit (read_plan p).n _ _ _ (read_moves m).e _ _ (plan-accepted p g.plan).n_high
    (moves-few s p m g)

-- THEOREM. No step prints more than 262,208 bytes.
pub text_fits : (s o : List ℕ) → length (text_in s o) ≤ text_size
text_fits s o =
    elim (ℕ_discrete (answer_in s o).refusal 0) [
      | yes z ↦ rw (text_planned s o z) (records_fit s (plan_in s o) (moves_in s o) (printable s o (step-done s o plan_size moves_size z).0))
      | no d ↦ rw (text_refused s o (answer_in s o).refusal refl d) (omega (arith, refused-le (answer_in s o).refusal))
    ]

-- ---- the answer and the two buffers, as the code has them

pub record Answered (s o : List ℕ) (a : StepAnswer) (p m plan moves : List ℕ) : Type 0 where
  pub plan_long : length p ≡ plan_size
  pub moves_long : length m ≡ moves_size
  pub answer : a ≡ step_answer s o (length p) (length m)
  pub plan_after_lem : plan ≡ plan_after s o p (length m)
  pub moves_after_lem : moves ≡ moves_after s o m (length p)

module _ {s o : List ℕ} {a : StepAnswer} {p m plan moves : List ℕ} (w : Answered s o a p m plan moves) where
  answer-is : a ≡ answer_in s o
  answer-is = w.answer ∙ ap (λ (k : ℕ). step_answer s o k (length m)) w.plan_long ∙ ap (step_answer s o plan_size) w.moves_long

  -- a refusal's text has its number
  pub number_text : a.refusal ≢ 0 → refused_text a.refusal ≡ text_in s o
  number_text d = sym (text_refused s o a.refusal (ap (λ (x : StepAnswer). x.refusal) answer-is) d)

  -- a planned step's records stand at the front of the buffers
  module _ (z : a.refusal ≡ 0) where
    planned-here : (answer_in s o).refusal ≡ 0
    planned-here = ap (λ (x : StepAnswer). x.refusal) (sym answer-is) ∙ z

    sizes : a ≡ planned (kind_number (decision_in s o).kind) (read_sheet s).limit (length (plan_in s o)) (length (moves_in s o))
    sizes = let d = step-done s o plan_size moves_size planned-here in answer-is ∙ done-step s o plan_size moves_size d.0 d.1 d.2

    pub plan_in_front : Front (plan_in s o) plan a.plan
    plan_in_front =
        front_of (plan_in s o) p plan a.plan (ap (λ (x : StepAnswer). x.plan) sizes) (w.plan_after_lem ∙ rw (← w.answer, z))

    pub moves_in_front : Front (moves_in s o) moves a.moves
    moves_in_front =
        front_of (moves_in s o) m moves a.moves (ap (λ (x : StepAnswer). x.moves) sizes) (w.moves_after_lem ∙ rw (← w.answer, z))

    pub fronts_printable : Printable s (take a.plan plan) (take a.moves moves)
    fronts_printable =
        rw (plan_in_front.front, moves_in_front.front) (printable s o (step-done s o plan_size moves_size planned-here).0)

    pub fronts_text : records_text s (take a.plan plan) (take a.moves moves) ≡ text_in s o
    fronts_text = rw (plan_in_front.front, moves_in_front.front) (sym (text_planned s o planned-here))
