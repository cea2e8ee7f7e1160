-- `claim::plan_and_carry_out` meets its contract: what is handed on is the moves just written, and so demand 3 holds. Assumes nothing.
use mathlib.Core.Path.{◌≡◌, sym, ap}
use mathlib.Core.List.{List}
use Prim.Native.Nat.{ℕ, ◌≤◌}
use native.Mathlib.Omega.{arith}
use lib.ListN.{length, take}
use lib.Seq.{length-take-le}
use Rattle.planner.specs.declared.StepAnswer.{StepAnswer}
use Rattle.planner.specs.Step.{step_answer, plan_after, moves_after}
use Rattle.planner.proofs.Sizes.{moves-inside}
use Rattle.words.specs.declared.WrittenAnswer.{WrittenAnswer}
use Rattle.carry.specs.Carry.{carry_answer, next_after}
use Rattle.claim.specs.Claim.{Demand3}
use Rattle.claim.proofs.Demand.{demand}
use Rattle.claim.proofs.plan_and_carry_out.Goals.{After-firrozka_plan_step-step}
use Rattle.claim.proofs.plan_and_carry_out.Goals as goal

-- the demand, of answers and buffers that are what the contracts say
handed-on : (s o p m x : List ℕ) (a : StepAnswer) (c : WrittenAnswer) (p₁ m₁ x₁ : List ℕ)
    → a ≡ step_answer s o (length p) (length m) → p₁ ≡ plan_after s o p (length m) → m₁ ≡ moves_after s o m (length p)
    → c ≡ carry_answer s (take a.moves m₁) (length x) → x₁ ≡ next_after s (take a.moves m₁) x → Demand3 s o p m x a c p₁ x₁
handed-on s o p m x a c p₁ m₁ x₁ e f g h i = rw (h, i, g, f, e) (demand s o p m x)

size-inside : (c : After-firrozka_plan_step-step) → c.firrozka_plan_step-step.result.moves ≤ length c.args.moves.now
size-inside c =
    let a = c.args in
    let sizes = moves-inside a.sheet.now a.old.now (length a.plan.now) (length c.args.moves.now) in
    omega (arith, ap (λ (x : StepAnswer). x.moves) c.firrozka_plan_step-step.ensures.answer, sizes)

pub returns : goal.returns
returns c =
    let e = c.firrozka_plan_step-step.ensures in
    let f = c.firrozka_carry_out-carry.ensures in
    record {
      step = e.answer;
      plan = e.plan;
      moves = e.moves;
      carry = f.answer;
      next = f.bytes;
      demand = handed-on _ _ _ _ _ _ _ _ _ _ e.answer e.plan e.moves f.answer f.bytes;
    }

pub slice_bounds-firrozka_carry_out-end : goal.slice_bounds-firrozka_carry_out-end
slice_bounds-firrozka_carry_out-end c = omega (arith, size-inside (goal.at.slice_bounds-firrozka_carry_out-end c).After-firrozka_plan_step-step)

pub slice_bounds-firrozka_carry_out-end-2 : goal.slice_bounds-firrozka_carry_out-end-2
slice_bounds-firrozka_carry_out-end-2 c = sym (length-take-le _ _ (omega (arith, size-inside (goal.at.slice_bounds-firrozka_carry_out-end-2 c).After-firrozka_plan_step-step)))
