-- A buffer that is long enough for the groups of any plan: 516 bytes, 4 for N and 8 for each of 64 nodes. Assumes nothing.
use mathlib.Core.Logic.{◌≢◌}
use mathlib.Core.Bool.{not}
use mathlib.Core.List.{List}
use Prim.Native.Nat.{ℕ, ◌≤◌}
use native.Mathlib.Decide.{ℕ_discrete}
use native.Mathlib.Omega.{arith}
use borrow.Author.Tests.{ne_eqb, le-ltb}
use lib.Dec.{eqb}
use Rattle.fold.proofs.Tests.{most}
use Rattle.words.specs.declared.WrittenAnswer.{WrittenAnswer}
use Rattle.words.specs.Answer.{refused}
use Rattle.plan.specs.Plan.{read_plan}
use Rattle.plan.proofs.Accepted.{plan-accepted}
use Rattle.plan.proofs.Refusals.{plan-most}
use Rattle.groups.specs.Groups.{groups_size, groups_answer}

module _ (p : List ℕ) (size : ℕ) (long : 516 ≤ size) where
  answer-most : (groups_answer p size).refusal ≤ 18
  unfolding groups_answer
  answer-most =
      let f : WrittenAnswer → ℕ = λ w. w.refusal in
      let k = (read_plan p).refusal in
      let z : 0 ≤ 18 = omega arith in
      elim (ℕ_discrete k 0) [
        | no d ↦ rw (ne_eqb k 0 d) (plan-most p)
        | yes e ↦ rw (le-ltb size (groups_size (read_plan p).n) (omega (arith, (plan-accepted p e).n_high)))
            (most f 18 (not (eqb k 0)) (refused k) _ (plan-most p) z)
      ]

  -- THEOREM. A call with a buffer of 516 bytes is never refused with 57, whatever the plan.
  pub never_57 : (groups_answer p size).refusal ≢ 57
  never_57 e = omega (arith, answer-most)
