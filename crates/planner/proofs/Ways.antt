-- One law for each way that the checks can go: of the old plan, of the two buffers, and of the sheet. Assumes nothing.
use mathlib.Core.Path.{◌≡◌, refl, ap, ◌∙◌}
use mathlib.Core.Logic.{◌≢◌}
use mathlib.Core.Bool.{Bool, true, false, not}
use mathlib.Core.List.{List}
use Prim.Native.Nat.{ℕ, ◌≤◌, ◌<◌}
use native.Mathlib.Omega.{arith}
use borrow.Author.Tests.{lt-ltb, le-ltb, eq-eqb, ne_eqb}
use lib.Dec.{eqb}
use lib.ListN.{length}
use Rattle.words.specs.Buffer.{placed, after_call}
use Rattle.sheet.specs.declared.SheetRefusal.{SheetRefusal}
use Rattle.sheet.specs.Sheet.{read_sheet, answer_of as sheet_answer}
use Rattle.sheet.proofs.Answers.{number_more as sheet-more}
use Rattle.plan.proofs.Answers.{number_more as plan-more}
use Rattle.plan.specs.Plan.{read_plan, accepted}
use Rattle.plan.specs.Kinds.{kind_number}
use Rattle.planner.specs.declared.StepAnswer.{StepAnswer}
use Rattle.planner.specs.declared.StepRefusal.{StepRefusal}
use Rattle.planner.specs.declared.StepRefusal.TheVariants.{Sheet as OfSheet, Plan as OfPlan, NodesDiffer, PlanBuffer, MovesBuffer}
use Rattle.planner.specs.Step.{refused, planned, number_of, old_refused, old_read, read_old, decision_in, plan_in, moves_in, written_answer, step_answer, plan_after, moves_after}
use Rattle.std.specs.Prelude.{Err, Result}
use Rattle.sheet.specs.declared.Sheet.{Sheet}

-- ---- the old plan

module _ (o : List ℕ) (n : ℕ) where
  pub old_empty : length o ≡ 0 → old_read false ≡ read_old o n
  unfolding read_old
  old_empty e = rw (eq-eqb (length o) 0 e)

  module _ (full : length o ≢ 0) where
    pub old-refused : (k : ℕ) → k ≡ (read_plan o).refusal → k ≢ 0 → old_refused k ≡ read_old o n
    unfolding read_old
    old-refused k e d = rw (ne_eqb (length o) 0 full, ← e, ne_eqb k 0 d)

    module _ (m kind limit : ℕ) (r : accepted m kind limit ≡ read_plan o) where
      pub old_differs : m ≢ n → old_refused 21 ≡ read_old o n
      unfolding read_old
      old_differs d = rw (ne_eqb (length o) 0 full, ← r, ne_eqb m n d)

      pub old-same : m ≡ n → old_read (not (eqb kind 0)) ≡ read_old o n
      unfolding read_old
      old-same e = rw (ne_eqb (length o) 0 full, ← r, eq-eqb m n e)

      pub old-primary : m ≡ n → kind ≡ 0 → old_read false ≡ read_old o n
      old-primary e z = rw (eq-eqb kind 0 z) at (old-same e)

      pub old-tree : m ≡ n → kind ≢ 0 → old_read true ≡ read_old o n
      old-tree e d = rw (ne_eqb kind 0 d) at (old-same e)

-- no refusal has the number 0
pub number_more : (r : StepRefusal) → number_of r ≢ 0
number_more (OfSheet r) z = omega (arith, sheet-more r)
number_more (OfPlan r) z = omega (arith, plan-more r)
number_more NodesDiffer z = omega arith
number_more PlanBuffer z = omega arith
number_more MovesBuffer z = omega arith

-- nor that of a sheet
pub refusal_more : (x : Result Sheet SheetRefusal) (r : SheetRefusal) → x ≡ Err r → (sheet_answer x).refusal ≢ 0
refusal_more x r e z = omega (arith, sheet-more r, ap (λ (y : Result Sheet SheetRefusal). (sheet_answer y).refusal) e)

-- ---- the two buffers

module _ (kind limit : ℕ) (plan moves planOut movesOut : List ℕ) where
  abbrev answer : StepAnswer
  answer = written_answer kind limit plan moves (length planOut) (length movesOut)

  -- the answer, and both buffers as they are then
  abbrev pub Writes : StepAnswer → List ℕ → List ℕ → Type 0
  Writes a plan₁ moves₁ = (a ≡ answer) × ((plan₁ ≡ after_call a.refusal plan planOut) × (moves₁ ≡ after_call a.refusal moves movesOut))

  pub writes_plan_short : (size : ℕ) → length plan ≡ size → length planOut < size → Writes (refused 22) planOut movesOut
  unfolding written_answer
  writes_plan_short size e l = (rw (lt-ltb (length planOut) (length plan) (omega (arith, e))), (refl, refl))

  module _ (size : ℕ) (e : length plan ≡ size) (long : size ≤ length planOut) where
    pub writes_moves_short : (size₂ : ℕ) → length moves ≡ size₂ → length movesOut < size₂ → Writes (refused 23) planOut movesOut
    unfolding written_answer
    writes_moves_short size₂ f l =
        let short = lt-ltb (length movesOut) (length moves) (omega (arith, f)) in
        (rw (le-ltb (length planOut) (length plan) (omega (arith, e)), short), (refl, refl))

    pub writes_both : (size₂ : ℕ) → length moves ≡ size₂ → size₂ ≤ length movesOut
        → Writes (planned kind limit size size₂) (placed plan planOut) (placed moves movesOut)
    unfolding written_answer
    writes_both size₂ f l =
        let fits = le-ltb (length movesOut) (length moves) (omega (arith, f)) in
        (rw (le-ltb (length planOut) (length plan) (omega (arith, e)), fits, e, f), (refl, refl))

-- ---- the sheet, then the old plan, then both buffers

module _ (s o : List ℕ) (a b : ℕ) where
  pub step-sheet : (k : ℕ) → k ≡ (read_sheet s).refusal → k ≢ 0 → refused k ≡ step_answer s o a b
  unfolding step_answer
  step-sheet k e d = rw (← e, ne_eqb k 0 d)

  module _ (n : ℕ) (z : 0 ≡ (read_sheet s).refusal) (m : n ≡ (read_sheet s).n) where
    pub step-old : (k : ℕ) → old_refused k ≡ read_old o n → k ≢ 0 → refused k ≡ step_answer s o a b
    unfolding step_answer
    step-old k e d = rw (← z, ← m, ← e, ne_eqb k 0 d)

    pub step-decided : (tree : Bool) → read_old o n ≡ old_read tree
        → written_answer (kind_number (decision_in s o).kind) (read_sheet s).limit (plan_in s o) (moves_in s o) a b ≡ step_answer s o a b
    unfolding step_answer
    step-decided tree e = rw (← z, ← m, e)

module _ (s o p m : List ℕ) where
  -- the answer, and both buffers as they are then
  abbrev pub Ends : StepAnswer → List ℕ → List ℕ → Type 0
  Ends a p₁ m₁ = (a ≡ step_answer s o (length p) (length m)) × ((p₁ ≡ plan_after s o p (length m)) × (m₁ ≡ moves_after s o m (length p)))

  refuses : (k : ℕ) → k ≢ 0 → refused k ≡ step_answer s o (length p) (length m) → Ends (refused k) p m
  refuses k d e = (e, (rw (← e, ne_eqb k 0 d), rw (← e, ne_eqb k 0 d)))

  pub ends_sheet : (k : ℕ) → k ≡ (read_sheet s).refusal → k ≢ 0 → Ends (refused k) p m
  ends_sheet k e d = refuses k d (step-sheet s o (length p) (length m) k e d)

  module _ (n : ℕ) (z : 0 ≡ (read_sheet s).refusal) (is : n ≡ (read_sheet s).n) where
    pub ends_old : (k : ℕ) → old_refused k ≡ read_old o n → k ≢ 0 → Ends (refused k) p m
    ends_old k e d = refuses k d (step-old s o (length p) (length m) n z is k e d)

    pub ends_written : (tree : Bool) → read_old o n ≡ old_read tree → (a : StepAnswer) (p₁ m₁ : List ℕ)
        → Writes (kind_number (decision_in s o).kind) (read_sheet s).limit (plan_in s o) (moves_in s o) p m a p₁ m₁ → Ends a p₁ m₁
    ends_written tree e a p₁ m₁ w =
        let q = w.0 ∙ step-decided s o (length p) (length m) n z is tree e in
        let plan = ap (λ (x : StepAnswer). after_call x.refusal (plan_in s o) p) q in
        let moves = ap (λ (x : StepAnswer). after_call x.refusal (moves_in s o) m) q in
        (q, (w.1.0 ∙ plan, w.1.1 ∙ moves))
