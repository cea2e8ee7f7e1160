-- Request 2026-03 of the bytes that *plan a step* writes: where it keeps the old tree, the rest of each family is levelled.
-- Assumes nothing.
use mathlib.Core.Path.{◌≡◌}
use mathlib.Core.List.{List}
use Prim.Native.Nat.{ℕ}
use lib.ListN.{length, take}
use Rattle.arrays.specs.Arrays.{at}
use Rattle.sheet.specs.Sheet.{read_sheet}
use Rattle.sheet.specs.Table.{table_in, held}
use Rattle.sheet.specs.Totals.{totals_in}
use Rattle.shares.specs.Levelled.{RestLevelled}
use Rattle.planner.specs.Step.{step_answer, plan_after}
use Rattle.claim.specs.Claim.{Overloaded, AcceptedTree, LongEnough}
use Rattle.claim.specs.Rest.{RestLevelledIn}
use Rattle.claim.proofs.KeptPlans.{decided_so, in_plan, kept_step}

-- THEOREM. For every accepted sheet with a subdomain above the limit, every accepted tree of as many nodes and buffers long enough: if the
-- step keeps the tree, then in the plan that it writes no member that was given a particle of the rest stands more than one above a member
-- of its family that still has space, nor at all above one of lower number.
pub rest-levelled : (s o p m x : List ℕ) → Overloaded s → AcceptedTree s o → LongEnough s p m x
    → let a = step_answer s o (length p) (length m) in
    a.kind ≡ 1 → RestLevelledIn s (take a.plan (plan_after s o p (length m)))
rest-levelled s o p m x over t long =
    kept_step s o p m x over t long (λ plan moves next. RestLevelledIn s plan) λ k.
    in_plan over t k
    (λ (h least share : ℕ → ℕ). RestLevelled (read_sheet s).n h (read_sheet s).limit least (at (totals_in s)) (held (table_in s)) share)
    (decided_so over t k).levelled
