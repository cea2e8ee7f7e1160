-- Buffers that are long enough: 16,392 bytes for an archive, 32,780 for a sheet, whatever the input is. Assumes nothing.
use mathlib.Core.Path.{◌≡◌}
use mathlib.Core.Logic.{◌≢◌, ◌⊎◌, inl, inr}
use mathlib.Core.Bool.{true, false, not}
use mathlib.Core.List.{List}
use Prim.Native.Nat.{ℕ, ◌≤◌}
use native.Mathlib.Omega.{arith}
use borrow.Author.Tests.{le-ltb}
use lib.Dec.{eqb, ltb}
use lib.ListN.{length}
use Rattle.fold.proofs.Tests.{most, either}
use Rattle.limit.specs.Limit.{max_nodes, max_tolerance, max_total, one_to}
use Rattle.limit.proofs.Laws.{one-to-is}
use Rattle.words.specs.declared.WrittenAnswer.{WrittenAnswer}
use Rattle.words.specs.Answer.{refused}
use Rattle.sheet.specs.Sheet.{read_sheet}
use Rattle.sheet.proofs.Filled.{length_most}
use Rattle.sheet.proofs.Refusals.{sheet-most}
use Rattle.archive.specs.Archive.{archive_size, write_answer, nodes_in, tolerance_in, table_from, total_in, counts_fine, sheet_from, counts_answer, read_answer}

module _ (s : List ℕ) (size : ℕ) (long : archive_size ≤ size) where
  write_most : (write_answer s size).refusal ≤ 7
  unfolding write_answer
  write_most =
      let f : WrittenAnswer → ℕ = λ w. w.refusal in
      let k = (read_sheet s).refusal in
      let z : 0 ≤ 7 = omega arith in
      rw (le-ltb size archive_size long) (most f 7 (not (eqb k 0)) (refused k) _ (omega (arith, sheet-most s)) z)

  -- THEOREM. With 16,392 bytes *write archive* is never refused with 56, whatever the sheet.
  pub write_never_56 : (write_answer s size).refusal ≢ 56
  write_never_56 e = omega (arith, write_most)

module _ (a : List ℕ) (size : ℕ) (long : 32780 ≤ size) where
  counts-most : nodes_in a ≤ max_nodes → (counts_answer a size).refusal ≤ 55
  unfolding counts_answer sheet_from
  counts-most few =
      let f : WrittenAnswer → ℕ = λ w. w.refusal in
      let z : 0 ≤ 55 = omega arith in
      let fits = length_most (nodes_in a) (tolerance_in a) (table_from a) few in
      rw (le-ltb size (length (sheet_from a)) (omega (arith, fits)))
      (most f 55 (not (counts_fine (nodes_in a) (table_from a))) (refused 55) _ (omega arith)
      (most f 55 (ltb max_total (total_in a)) (refused 55) _ (omega arith) z))

  read-most : (read_answer a size).refusal ≤ 55
  unfolding read_answer
  read-most = split (either (one_to max_nodes (nodes_in a)))
    where
      f : WrittenAnswer → ℕ
      f w = w.refusal

      split : (one_to max_nodes (nodes_in a) ≡ true) ⊎ (one_to max_nodes (nodes_in a) ≡ false) → (read_answer a size).refusal ≤ 55
      split (inl e) =
          most f 55 (not (eqb (length a) archive_size)) (refused 54) _ (omega arith)
          (most f 55 (not (one_to max_nodes (nodes_in a))) (refused 2) _ (omega arith)
          (most f 55 (not (one_to max_tolerance (tolerance_in a))) (refused 3) _ (omega arith)
          (counts-most (one-to-is max_nodes (nodes_in a) e).1)))
      split (inr e) = rw e (most f 55 (not (eqb (length a) archive_size)) (refused 54) (refused 2) (omega arith) (omega arith))

  -- THEOREM. With 32,780 bytes *read archive* is never refused with 56, whatever the archive.
  pub read-never_56 : (read_answer a size).refusal ≢ 56
  read-never_56 e = omega (arith, read-most)
