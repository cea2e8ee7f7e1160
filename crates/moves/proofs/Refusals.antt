-- The numbers that moves are refused with are at most 36. Assumes nothing.
use mathlib.Core.Bool.{not}
use mathlib.Core.List.{List}
use Prim.Native.Nat.{ℕ, ◌+◌, ◌-◌, ◌*◌, ◌≤◌}
use native.Mathlib.Omega.{arith}
use lib.Dec.{eqb, ltb}
use lib.ListN.{length, get_or}
use Rattle.fold.specs.All.{every}
use Rattle.fold.specs.Rising.{rising}
use Rattle.fold.proofs.Tests.{most}
use Rattle.limit.specs.Limit.{one_to, max_nodes}
use Rattle.words.specs.Words.{words}
use Rattle.moves.specs.declared.MovesAnswer.{MovesAnswer}
use Rattle.moves.specs.Moves.{refused, routes_of, counts_of, route_fine, count_fine, read_moves}

pub moves-most : (s : List ℕ) → (read_moves s).refusal ≤ 36
unfolding read_moves
moves-most s =
    let n = get_or (words s) 0 0 in
    let e = get_or (words s) 1 0 in
    let f : MovesAnswer → ℕ = λ a. a.refusal in
    let z : 0 ≤ 36 = omega arith in
    most f 36 (ltb (length s) 8) (refused 31) _ (omega arith)
    (most f 36 (not (one_to max_nodes n)) (refused 32) _ (omega arith)
    (most f 36 (ltb (n * (n - 1)) e) (refused 33) _ (omega arith)
    (most f 36 (not (eqb (length s) (4 * (2 + 2 * e)))) (refused 34) _ (omega arith)
    (most f 36 (not (rising (route_fine n) 0 (routes_of s e))) (refused 35) _ (omega arith)
    (most f 36 (not (every count_fine (counts_of s e))) (refused 36) _ (omega arith) z)))))
