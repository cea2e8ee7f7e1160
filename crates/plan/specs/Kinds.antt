-- The three kinds of a plan and the paper's numbers for them.
use Rattle.std.specs.Prelude.{ℕ, cond, eqb, Err, Ok, Result}
use Rattle.plan.specs.declared.Kind.{Kind}
use Rattle.plan.specs.declared.Kind.TheVariants.{Primary, Kept, Rebuilt}
use Rattle.plan.specs.declared.PlanRefusal.{PlanRefusal}
use Rattle.plan.specs.declared.PlanRefusal.TheVariants.{Kind as OfKind}

-- "Kind 0 is primary, 1 kept, 2 rebuilt.": the paper's number of each kind, and the kind that a number stands for
abbrev pub kind_number : Kind → ℕ
kind_number Primary = 0
kind_number Kept = 1
kind_number Rebuilt = 2

abbrev pub kind_of : ℕ → Result Kind PlanRefusal
kind_of k =
    cond (eqb k 0) (Ok Primary)
    (cond (eqb k 1) (Ok Kept)
    (cond (eqb k 2) (Ok Rebuilt)
    (Err OfKind)))
