-- The numbers that a plan is refused with are at most 18. Assumes nothing.
use mathlib.Core.Bool.{not}
use mathlib.Core.List.{List}
use Prim.Native.Nat.{ℕ, ◌+◌, ◌*◌, ◌≤◌}
use native.Mathlib.Omega.{arith}
use lib.Dec.{eqb, ltb}
use lib.ListN.{length, get_or}
use Rattle.fold.proofs.Tests.{most}
use Rattle.limit.specs.Limit.{one_to, max_nodes, max_limit}
use Rattle.words.specs.Words.{words}
use Rattle.arrays.specs.Arrays.{at}
use Rattle.plan.specs.declared.PlanAnswer.{PlanAnswer}
use Rattle.plan.specs.Tree.{helpands_below, shape_fine, shares_fine}
use Rattle.plan.specs.Plan.{refused, helpands_of, shares_of, kind_fine, arrays_answer, head_answer, read_plan}

pub plan-most : (s : List ℕ) → (read_plan s).refusal ≤ 18
unfolding read_plan head_answer arrays_answer
plan-most s =
    let n = get_or (words s) 0 0 in
    let kind = get_or (words s) 1 0 in
    let limit = get_or (words s) 2 0 in
    let h = at (helpands_of s n) in
    let f : PlanAnswer → ℕ = λ a. a.refusal in
    let z : 0 ≤ 18 = omega arith in
    most f 18 (ltb (length s) 12) (refused 11) _ (omega arith)
    (most f 18 (not (one_to max_nodes n)) (refused 12) _ (omega arith)
    (most f 18 (not (kind_fine n kind)) (refused 13) _ (omega arith)
    (most f 18 (ltb max_limit limit) (refused 14) _ (omega arith)
    (most f 18 (not (eqb (length s) (4 * (3 + 2 * n)))) (refused 15) _ (omega arith)
    (most f 18 (not (helpands_below n h)) (refused 16) _ (omega arith)
    (most f 18 (not (shape_fine n kind h)) (refused 17) _ (omega arith)
    (most f 18 (not (shares_fine n limit h (at (shares_of s n)))) (refused 18) _ (omega arith) z)))))))
