-- Laws of what a check of the shape answers. Assumes nothing.
use mathlib.Core.Path.{◌≡◌, refl}
use mathlib.Core.Bool.{Bool, true, false}
use Rattle.std.specs.Prelude.{Err, Ok, ⊤}
use Rattle.plan.specs.declared.PlanRefusal.{PlanRefusal}
use Rattle.plan.specs.declared.PlanRefusal.TheVariants.{Shape}
use Rattle.plan.specs.Inner.{checked_of}

pub checked-passed : (b : Bool) {u : ⊤} → Ok u ≡ checked_of b → b ≡ true
checked-passed true e = refl
checked-passed false e = cc

pub checked_refused : (b : Bool) {r : PlanRefusal} → Err r ≡ checked_of b → (b ≡ false) × (r ≡ Shape)
checked_refused true e = cc
checked_refused false e = (refl, cc)
