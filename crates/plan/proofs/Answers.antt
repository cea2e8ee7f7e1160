-- The answer in numbers determines the reading: no two cases of the enum share their number and values. Assumes nothing.
use mathlib.Core.Path.{◌≡◌, refl, sym, ap, ◌∙◌}
use mathlib.Core.Bool.{cond}
use Prim.Native.Nat.{ℕ, ◌≤◌, ◌<◌}
use native.Mathlib.Omega.{arith}
use borrow.Author.Tests.{ne_eqb}
use lib.Dec.{eqb}
use Rattle.plan.specs.declared.PlanRefusal.{PlanRefusal}
use Rattle.plan.specs.declared.PlanRefusal.TheVariants.{Short, Nodes, Kind as OfKind, Limit, Length, Helpand, Shape, Share}
use Rattle.plan.specs.declared.PlanAnswer.{PlanAnswer}
use Rattle.plan.specs.declared.Kind.{Kind}
use Rattle.plan.specs.declared.Kind.TheVariants.{Primary, Kept, Rebuilt}
use Rattle.plan.specs.Plan.{refusal_number, answer_of}
use Rattle.plan.specs.Kinds.{kind_number}
use Rattle.std.specs.Prelude.{Err, Ok, Result}
use Rattle.plan.specs.declared.Plan.{Plan}

-- the refusal of a number
abbrev pub refusal_of : ℕ → PlanRefusal
refusal_of k =
    cond (eqb k 11) Short
    (cond (eqb k 12) Nodes
    (cond (eqb k 13) OfKind
    (cond (eqb k 14) Limit
    (cond (eqb k 15) Length
    (cond (eqb k 16) Helpand
    (cond (eqb k 17) Shape Share))))))

-- the paper numbers them 11 to 18, and the number tells which refusal it is
pub numbered : (r : PlanRefusal) → (11 ≤ refusal_number r) × (refusal_number r ≤ 18) × (refusal_of (refusal_number r) ≡ r)
numbered Short = (omega arith, omega arith, refl)
numbered Nodes = (omega arith, omega arith, refl)
numbered OfKind = (omega arith, omega arith, refl)
numbered Limit = (omega arith, omega arith, refl)
numbered Length = (omega arith, omega arith, refl)
numbered Helpand = (omega arith, omega arith, refl)
numbered Shape = (omega arith, omega arith, refl)
numbered Share = (omega arith, omega arith, refl)

-- no refusal has the number 0
pub number_more : (r : PlanRefusal) → 0 < refusal_number r
number_more r = omega (arith, (numbered r).0)

-- the kind of a number, and that the number tells which kind it is
abbrev pub kind_from : ℕ → Kind
kind_from k = cond (eqb k 0) Primary (cond (eqb k 1) Kept Rebuilt)

pub kind_back : (k : Kind) → kind_from (kind_number k) ≡ k
kind_back Primary = refl
kind_back Kept = refl
kind_back Rebuilt = refl

-- the reading of an answer
abbrev reading_of : PlanAnswer → Result Plan PlanRefusal
reading_of a =
    cond (eqb a.refusal 0) (Ok (record { n = a.n; kind = kind_from a.kind; limit = a.limit })) (Err (refusal_of a.refusal))

back : (r : Result Plan PlanRefusal) → reading_of (answer_of r) ≡ r
back (Ok p) = ap (λ (k : Kind). Ok (record { n = p.n; kind = k; limit = p.limit })) (kind_back p.kind)
back (Err r) = rw (ne_eqb (refusal_number r) 0 (λ z. omega (arith, number_more r))) (ap Err (numbered r).2)

pub answer_determines : (r q : Result Plan PlanRefusal) → answer_of r ≡ answer_of q → r ≡ q
answer_determines r q e = sym (back r) ∙ ap reading_of e ∙ back q
