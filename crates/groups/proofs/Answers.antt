-- The answer in numbers determines the grouping: no two cases of the enum share their number and values. Assumes nothing.
use mathlib.Core.Path.{◌≡◌, refl, sym, ap, ◌∙◌}
use mathlib.Core.Bool.{cond}
use Prim.Native.Nat.{ℕ}
use native.Mathlib.Omega.{arith}
use borrow.Author.Tests.{le-leb, ne_eqb}
use lib.Dec.{eqb, leb}
use Rattle.words.specs.declared.WrittenAnswer.{WrittenAnswer}
use Rattle.plan.specs.declared.PlanRefusal.{PlanRefusal}
use Rattle.plan.specs.Plan.{refusal_number as plan_number}
use Rattle.plan.proofs.Answers.{refusal_of as plan_refusal, numbered}
use Rattle.groups.specs.declared.GroupsRefusal.{GroupsRefusal}
use Rattle.groups.specs.declared.GroupsRefusal.TheVariants.{Plan, Buffer}
use Rattle.groups.specs.Groups.{answer_of}
use Rattle.std.specs.Prelude.{Err, Ok, Result}

-- the refusal of a number
abbrev refusal_of : ℕ → GroupsRefusal
refusal_of k = cond (leb k 18) (Plan (plan_refusal k)) Buffer

-- the grouping of an answer
abbrev grouping_of : WrittenAnswer → Result ℕ GroupsRefusal
grouping_of a = cond (eqb a.refusal 0) (Ok a.bytes) (Err (refusal_of a.refusal))

back : (g : Result ℕ GroupsRefusal) → grouping_of (answer_of g) ≡ g
back (Ok bytes) = refl
back (Err (Plan r)) =
    let n = numbered r in
    rw (ne_eqb (plan_number r) 0 (λ z. omega (arith, n.0)), le-leb (plan_number r) 18 n.1)
    (ap (λ (x : PlanRefusal). Err (Plan x)) n.2)
back (Err Buffer) = refl

-- THEOREM. Two groupings with the same numbers are the same.
pub answer_determines : (a b : Result ℕ GroupsRefusal) → answer_of a ≡ answer_of b → a ≡ b
answer_determines a b e = sym (back a) ∙ ap grouping_of e ∙ back b
