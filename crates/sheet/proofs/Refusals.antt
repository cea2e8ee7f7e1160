-- The numbers that a sheet is refused with are at most 7. Assumes nothing.
use mathlib.Core.Bool.{not}
use mathlib.Core.List.{List}
use Prim.Native.Nat.{ℕ, ◌+◌, ◌*◌, ◌≤◌}
use native.Mathlib.Omega.{arith}
use lib.Dec.{eqb, ltb}
use lib.ListN.{length, get_or}
use Rattle.fold.specs.Rising.{rising}
use Rattle.fold.proofs.Tests.{most}
use Rattle.limit.specs.Limit.{one_to, max_nodes, max_tolerance}
use Rattle.words.specs.Words.{words}
use Rattle.sheet.specs.declared.SheetAnswer.{SheetAnswer}
use Rattle.sheet.specs.Sheet.{refused, cells_of, counts_of, cell_fine, running_sum, summed_answer, HeaderAnswer, header_refused, read_header, read_sheet}
use Rattle.std.specs.Prelude.{None, Option, Some}

header_most : (s : List ℕ) → (read_header s).refusal ≤ 4
unfolding read_header
header_most s =
    let n = get_or (words s) 0 0 in
    let t = get_or (words s) 1 0 in
    let f : HeaderAnswer → ℕ = λ a. a.refusal in
    let z : 0 ≤ 4 = omega arith in
    most f 4 (ltb (length s) 12) (header_refused 1) _ (omega arith)
    (most f 4 (not (one_to max_nodes n)) (header_refused 2) _ (omega arith)
    (most f 4 (not (one_to max_tolerance t)) (header_refused 3) _ (omega arith)
    (most f 4 (ltb (n * n) (get_or (words s) 2 0)) (header_refused 4) _ (omega arith) z)))

summed_most : (n t e : ℕ) (x : Option ℕ) → (summed_answer n t e x).refusal ≤ 7
summed_most n t e (Some p) = omega arith
summed_most n t e None = omega arith

pub sheet-most : (s : List ℕ) → (read_sheet s).refusal ≤ 7
unfolding read_sheet
sheet-most s =
    let h = read_header s in
    let f : SheetAnswer → ℕ = λ a. a.refusal in
    most f 7 (not (eqb h.refusal 0)) (refused h.refusal) _ (omega (arith, header_most s))
    (most f 7 (not (eqb (length s) (4 * (3 + 2 * h.e)))) (refused 5) _ (omega arith)
    (most f 7 (not (rising (cell_fine h.n) 0 (cells_of s h.e))) (refused 6) _ (omega arith)
    (summed_most h.n h.t h.e (running_sum 0 (counts_of s h.e)))))
