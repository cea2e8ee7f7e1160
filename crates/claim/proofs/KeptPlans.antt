-- What was decided of a kept tree is true of the bytes that *plan a step* and then *carry out* write. Assumes nothing.
use mathlib.Core.Path.{◌≡◌, sym, ap, ◌∙◌, subst}
use mathlib.Core.Logic.{inl}
use mathlib.Core.List.{List}
use Prim.Native.Nat.{ℕ, ◌≤◌}
use native.Mathlib.Omega.{arith}
use lib.ListN.{length, take}
use Rattle.arrays.specs.Arrays.{at, tabulate}
use Rattle.sheet.specs.Sheet.{read_sheet}
use Rattle.sheet.specs.Table.{table_in}
use Rattle.sheet.specs.Totals.{totals_in}
use Rattle.plan.specs.Plan.{helpands_of, shares_of}
use Rattle.plan.specs.Kinds.{kind_number}
use Rattle.tree.specs.Least.{least}
use Rattle.decide.specs.declared.Decision.{Decision}
use Rattle.decide.specs.Decide.{leasts_of}
use Rattle.decide.proofs.Decided.{KeptFamilies, decided_families}
use Rattle.planner.specs.declared.StepAnswer.{StepAnswer}
use Rattle.planner.specs.Step.{read_old, old_helpands, decision_in, plan_in, moves_in, step_answer, plan_after, moves_after}
use Rattle.planner.proofs.Facts.{given, decision}
use Rattle.planner.proofs.ReadBack.{Plannable, was_read, done-step, plan-front, moves_front}
use Rattle.planner.proofs.Sizes.{plan-size, moves-size}
use Rattle.words.specs.declared.WrittenAnswer.{WrittenAnswer}
use Rattle.carry.specs.Carry.{next_sheet, carry_answer, next_after}
use Rattle.carry.proofs.ReadBack.{carries_out, next-front, next-size}
use Rattle.claim.specs.Claim.{Overloaded, AcceptedTree, LongEnough, helpand, share}
use Rattle.claim.specs.Rest.{leasts}
use Rattle.claim.proofs.Exact.{plannable, carriable, back, limit_is, needed_here, has-tree, old-at, same-helpands}

module _ {s o : List ℕ} (over : Overloaded s) (t : AcceptedTree s o) (k : kind_number (decision_in s o).kind ≡ 1) where
  abbrev n₀ : ℕ
  n₀ = (read_sheet s).n

  abbrev limit : ℕ
  limit = (read_sheet s).limit

  abbrev old : List ℕ
  old = old_helpands o (read_old o n₀).tree n₀

  y : Plannable s o
  y = plannable s o over (inl t)

  pub decided_so : KeptFamilies n₀ limit (table_in s) (totals_in s) old (decision_in s o)
  decided_so =
      let kind : Decision → ℕ = λ d. kind_number d.kind in
      rw (decision (was_read y), limit_is over y)
      (decided_families n₀ (read_sheet s).p (read_sheet s).t (table_in s) (totals_in s) (read_old o n₀).tree old (given (was_read y))
      (needed_here over y) (has-tree over y t) (rw (← limit_is over y) (sym (ap kind (decision (was_read y))) ∙ k)))

  -- the plan as it is read has the old helpands and the shares that were decided
  helpands-same : at old ≡ at (helpands_of (plan_in s o) n₀)
  helpands-same = old-at over y t ∙ ap at (sym (same-helpands over y t k))

  shares-same : at (decision_in s o).shares ≡ at (shares_of (plan_in s o) n₀)
  shares-same = sym (ap at (back over y).shares ∙ decided_so.shares_end)

  -- what is true of the old helpands, their leasts and the shares that were decided is true of those in the plan
  pub in_plan : (Q : (ℕ → ℕ) → (ℕ → ℕ) → (ℕ → ℕ) → Type 0)
      → Q (at old) (at (leasts_of n₀ old (totals_in s) limit)) (at (decision_in s o).shares)
      → Q (helpand s (plan_in s o)) (leasts s (plan_in s o)) (share s (plan_in s o))
  in_plan Q q =
      let leasts-of : (ℕ → ℕ) → ℕ → ℕ = λ h. at (tabulate n₀ (least n₀ h (at (totals_in s)) limit)) in
      subst (λ (h : ℕ → ℕ). Q h (leasts-of h) (share s (plan_in s o))) helpands-same
      (subst (λ (f : ℕ → ℕ). Q (at old) (leasts-of (at old)) f) shares-same q)

-- ---- what is true of the three records, if the tree is kept, is true of the buffers

pub kept_step : (s o p m x : List ℕ) → Overloaded s → AcceptedTree s o → LongEnough s p m x → (Q : List ℕ → List ℕ → List ℕ → Type 0)
    → (kind_number (decision_in s o).kind ≡ 1 → Q (plan_in s o) (moves_in s o) (next_sheet s (moves_in s o)))
    → let a = step_answer s o (length p) (length m) in
    let moves = take a.moves (moves_after s o m (length p)) in
    let c = carry_answer s moves (length x) in
    a.kind ≡ 1 → Q (take a.plan (plan_after s o p (length m))) moves (take c.bytes (next_after s moves x))
kept_step s o p m x over t long Q q k =
    let y = plannable s o over (inl t) in
    let plan-fits : length (plan_in s o) ≤ length p = omega (arith, plan-size y, long.plan) in
    let moves-fit : length (moves_in s o) ≤ length m = omega (arith, moves-size y, long.moves) in
    let next_fits : length (next_sheet s (moves_in s o)) ≤ length x = omega (arith, next-size (carriable over y), long.next) in
    let answer = done-step s o (length p) (length m) y plan-fits moves-fit in
    let e : (step_answer s o (length p) (length m)).refusal ≡ 0 = ap (λ (a : StepAnswer). a.refusal) answer in
    let kinds : (step_answer s o (length p) (length m)).kind ≡ kind_number (decision_in s o).kind = ap (λ (a : StepAnswer). a.kind) answer in
    let carried = carries_out s (moves_in s o) (length x) (carriable over y) next_fits in
    let f : (carry_answer s (moves_in s o) (length x)).refusal ≡ 0 = ap (λ (c : WrittenAnswer). c.refusal) carried in
    rw (moves_front s o p m e) (rw (plan-front s o p m e, next-front s (moves_in s o) x f) (q (sym kinds ∙ k)))
