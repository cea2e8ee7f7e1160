-- `in_force::choose` meets its contract: a plan that was read has its helpands. Assumes nothing.
use native.Mathlib.Omega.{arith}
use Rattle.plan.proofs.Accepted.{reading_accepted}
use Rattle.in_force.proofs.choose.Goals as goal

pub same_helpands-requires : goal.same_helpands-requires
same_helpands-requires c =
    let x = reading_accepted _ c.in-Ok.a c.in-Ok.ensures in
    let y = reading_accepted _ c.in-Ok-read_plan.b c.in-Ok-read_plan.ensures in
    omega (arith, x.size, y.size)
