-- `in_force::part_in_force` meets its contract: a stretch lies inside its plan, so its numbers fit. Assumes nothing.
use native.Mathlib.Omega.{arith}
use Rattle.in_force.proofs.InForce.{in_force_within}
use Rattle.in_force.proofs.part_in_force.Goals as goal

pub overflow_mul-result : goal.overflow_mul-result
overflow_mul-result c = omega (arith, in_force_within _ _ _ c.in-Old.ensures)

pub overflow_mul-result-in-New : goal.overflow_mul-result-in-New
overflow_mul-result-in-New c = omega (arith, in_force_within _ _ _ c.in-New.ensures)
