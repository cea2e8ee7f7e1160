-- What was planned is read back as what was decided: the plan with its kind, limit, helpands and shares, and the moves with their routes
-- and counts. Assumes nothing.
use mathlib.Core.Path.{◌≡◌, refl, sym, ap, ◌∙◌}
use mathlib.Core.Bool.{Bool, true}
use mathlib.Core.List.{List}
use Prim.Native.Nat.{ℕ, ◌≤◌}
use native.Mathlib.Omega.{arith}
use borrow.Author.Tests.{ltb-false, le-ltb, eq-eqb}
use lib.Dec.{eqb, ltb}
use lib.ListN.{length, take}
use lib.Seq.{take_all, take-length}
use Rattle.fold.proofs.Tests.{passed, handed}
use Rattle.words.proofs.Buffer.{after_front}
use Rattle.sheet.specs.declared.Sheet.{Sheet}
use Rattle.sheet.specs.Sheet.{read_sheet}
use Rattle.sheet.specs.Table.{table_in}
use Rattle.sheet.specs.Totals.{totals_in}
use Rattle.sheet.proofs.Accepted.{sheet-accepted}
use Rattle.moves.proofs.RoundTrip.{Writable, read-written, routes-written, counts-written}
use Rattle.transfer.proofs.Carrying.{Carries}
use Rattle.plan.specs.Kinds.{kind_number}
use Rattle.planner.specs.declared.StepAnswer.{StepAnswer}
use Rattle.planner.specs.Step.{refused, planned, read_old, decision_in, plan_in, due_in, decided_routes, decided_counts, moves_in, written_answer, step_answer, plan_after, moves_after, StepReadBack}
use Rattle.planner.specs.Inner.{StepRead}
use Rattle.planner.proofs.Facts.{decision_fine}
use Rattle.planner.proofs.Records.{carries_due}

-- ---- accepted: every check passed, so each says its part

-- the checks before 22 and 23
pub record Plannable (s o : List ℕ) : Type 0 where
  pub sheet : (read_sheet s).refusal ≡ 0
  pub old : (read_old o (read_sheet s).n).refusal ≡ 0

module _ (s o : List ℕ) (plan_size moves_size : ℕ) where
  pub step-done : (step_answer s o plan_size moves_size).refusal ≡ 0
      → Plannable s o × (length (plan_in s o) ≤ plan_size) × (length (moves_in s o) ≤ moves_size)
  unfolding step_answer written_answer
  step-done q =
      let f : StepAnswer → ℕ = λ a. a.refusal in
      let a₁ = handed f refused (λ k. refl) (read_sheet s).refusal _ q in
      let a₂ = handed f refused (λ k. refl) (read_old o (read_sheet s).n).refusal _ a₁.1 in
      let a₃ = passed f (ltb plan_size (length (plan_in s o))) (refused 22) _ (λ z. omega arith) a₂.1 in
      let a₄ = passed f (ltb moves_size (length (moves_in s o))) (refused 23) _ (λ z. omega arith) a₃.1 in (
        record { sheet = a₁.0; old = a₂.0 },
        ltb-false plan_size (length (plan_in s o)) a₃.0,
        ltb-false moves_size (length (moves_in s o)) a₄.0,
      )

  -- and conversely
  pub done-step : Plannable s o → length (plan_in s o) ≤ plan_size → length (moves_in s o) ≤ moves_size
      → step_answer s o plan_size moves_size ≡ planned (kind_number (decision_in s o).kind) (read_sheet s).limit (length (plan_in s o)) (length (moves_in s o))
  unfolding step_answer written_answer
  done-step d f g =
      let a : eqb (read_sheet s).refusal 0 ≡ true = eq-eqb (read_sheet s).refusal 0 d.sheet in
      let b : eqb (read_old o (read_sheet s).n).refusal 0 ≡ true = eq-eqb (read_old o (read_sheet s).n).refusal 0 d.old in
      rw (a, b, le-ltb plan_size (length (plan_in s o)) f, le-ltb moves_size (length (moves_in s o)) g)

-- ---- a sheet and an old plan that are accepted were read as something

module _ {s o : List ℕ} (d : Plannable s o) where
  abbrev pub head : Sheet
  head = let a = read_sheet s in record { n = a.n; t = a.t; e = a.e; p = a.p; limit = a.limit }

  abbrev pub tree : Bool
  tree = (read_old o (read_sheet s).n).tree

  pub was_read : StepRead s o head tree
  was_read =
      record {
        sheet = sym (sheet-accepted s d.sheet).answer;
        old = ap (λ (k : ℕ). record { refusal = k; tree = tree }) d.old;
      }

  -- the moves that are decided carry out what is due
  pub carries : Carries (read_sheet s).n (table_in s) (due_in (read_sheet s).n (totals_in s) (decision_in s o))
  carries = carries_due was_read

  abbrev routes : List ℕ
  routes = decided_routes s o

  abbrev counts : List ℕ
  counts = decided_counts s o

  all-counts : take (length routes) counts ≡ counts
  all-counts = take_all (length routes) counts (omega (arith, carries.accepted.same))

  writable : Writable (read_sheet s).n (length routes) routes counts
  writable =
      let k = sheet-accepted s d.sheet in
      let a = carries.accepted in
      record {
        n_low = k.n_low;
        n_high = k.n_high;
        e_high = a.few;
        routes_long = omega arith;
        counts_long = omega (arith, a.same);
        routes_fine = rw (take-length routes) a.routes_fine;
        counts_fine_lem = rw all-counts a.counts_fine_lem;
      }

  pub records_back : StepReadBack s o (plan_in s o) (moves_in s o)
  unfolding plan_in moves_in
  records_back =
      let n = (read_sheet s).n in
      let plan = (decision_fine was_read).read_back in
      record {
        plan_read = plan.answer;
        helpands = plan.helpands_back;
        shares = plan.shares_back;
        moves_read = read-written n (length routes) routes counts writable;
        routes = routes-written n (length routes) routes counts writable ∙ take-length routes;
        counts = counts-written n (length routes) routes counts writable ∙ all-counts;
      }

-- ---- the buffers' fronts are the two records

module _ (s o p m : List ℕ) (q : (step_answer s o (length p) (length m)).refusal ≡ 0) where
  abbrev a : StepAnswer
  a = step_answer s o (length p) (length m)

  answer-is : a ≡ planned (kind_number (decision_in s o).kind) (read_sheet s).limit (length (plan_in s o)) (length (moves_in s o))
  answer-is = let d = step-done s o (length p) (length m) q in done-step s o (length p) (length m) d.0 d.1 d.2

  pub plan-front : take a.plan (plan_after s o p (length m)) ≡ plan_in s o
  plan-front = ap (λ (x : StepAnswer). take x.plan (plan_after s o p (length m))) answer-is ∙ after_front a.refusal (plan_in s o) p q

  pub moves_front : take a.moves (moves_after s o m (length p)) ≡ moves_in s o
  moves_front =
      ap (λ (x : StepAnswer). take x.moves (moves_after s o m (length p))) answer-is ∙ after_front a.refusal (moves_in s o) m q

  -- THEOREM. After an accepted call the bytes in front of the two buffers, of the lengths given, are read back as what was decided.
  pub step-read_back : StepReadBack s o (take a.plan (plan_after s o p (length m))) (take a.moves (moves_after s o m (length p)))
  step-read_back = rw (plan-front, moves_front) (records_back (step-done s o (length p) (length m) q).0)
