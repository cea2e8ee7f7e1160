-- What the inner functions of this crate ask of each other. No promise to a caller rests on these definitions.
use Rattle.std.specs.Prelude.{Bool, true, false, cond, ℕ, Err, Ok, Result, ⊤}
use Rattle.plan.specs.Plan.{kind_fine}
use Rattle.plan.specs.Kinds.{kind_of}
use Rattle.plan.specs.declared.Kind.{Kind}
use Rattle.plan.specs.declared.PlanRefusal.TheVariants.{Kind as OfKind, Shape}
use Rattle.plan.specs.declared.PlanRefusal.{PlanRefusal}

-- the shape is right, or the plan is refused for it
abbrev pub checked_of : Bool → Result ⊤ PlanRefusal
checked_of true = Ok tt
checked_of false = Err Shape

-- the kind that a word stands for in a plan of n nodes, or the plan is refused for it
abbrev pub kind_read : ℕ → ℕ → Result Kind PlanRefusal
kind_read n word = cond (kind_fine n word) (kind_of word) (Err OfKind)
