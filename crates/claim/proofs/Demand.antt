-- Demand 3: no plan, moves or sheet that follows is longer than the sizes that the demand names, so what holds of buffers as long as the
-- records holds of these. Assumes nothing.
use mathlib.Core.List.{List}
use native.Mathlib.Omega.{arith}
use Prim.Native.Nat.{ℕ}
use lib.ListN.{length, take}
use Rattle.planner.specs.Step.{step_answer, plan_after, moves_after}
use Rattle.planner.proofs.Sizes.{plan-size, moves-size}
use Rattle.carry.specs.Carry.{carry_answer, next_after}
use Rattle.carry.proofs.ReadBack.{next-size}
use Rattle.claim.specs.Claim.{Demand3}
use Rattle.claim.proofs.Exact.{plannable, carriable, exact}

-- THEOREM. Demand 3 holds of what *plan a step* and then *carry out* answer and write, for every sheet, old plan and buffers.
pub demand : (s o p m x : List ℕ)
    → let a = step_answer s o (length p) (length m) in
    let moves = take a.moves (moves_after s o m (length p)) in
    Demand3 s o p m x a (carry_answer s moves (length x)) (plan_after s o p (length m)) (next_after s moves x)
demand s o p m x over t long =
    let y = plannable s o over t in
    exact s o p m x over t (omega (arith, plan-size y, long.plan)) (omega (arith, moves-size y, long.moves))
    (omega (arith, next-size (carriable over y), long.next))
