-- `in_force::tree_in_force` meets its contract: a stretch lies inside its plan. Assumes nothing.
use native.Mathlib.Omega.{arith}
use Rattle.in_force.proofs.InForce.{in_force_within}
use Rattle.in_force.proofs.tree_in_force.Goals as goal

pub slice_bounds-result-end : goal.slice_bounds-result-end
slice_bounds-result-end c = omega (arith, in_force_within _ _ _ c.in-Old.ensures)

pub slice_bounds-result-end-in-New : goal.slice_bounds-result-end-in-New
slice_bounds-result-end-in-New c = omega (arith, in_force_within _ _ _ c.in-New.ensures)
