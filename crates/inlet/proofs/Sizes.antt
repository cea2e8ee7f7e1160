-- Buffers that are long enough: 32,780 bytes for every call, and for two sheets their lengths together less one header. Assumes nothing.
use mathlib.Core.Path.{ap, ◌∙◌}
use mathlib.Core.Logic.{◌≢◌}
use mathlib.Core.Bool.{not}
use mathlib.Core.List.{List}
use Prim.Native.Nat.{ℕ, zero, suc, ◌+◌, ◌*◌, ◌≤◌}
use native.Mathlib.Decide.{ℕ_discrete}
use native.Mathlib.Omega.{arith}
use borrow.Author.Tests.{ne_eqb, le-ltb}
use lib.Dec.{eqb, ltb}
use lib.ListN.{length, length-append}
use Rattle.fold.specs.Collect.{collect}
use Rattle.fold.proofs.Tests.{most}
use Rattle.limit.specs.Limit.{max_total}
use Rattle.arrays.specs.Arrays.{at}
use Rattle.words.specs.declared.WrittenAnswer.{WrittenAnswer}
use Rattle.words.specs.Answer.{refused}
use Rattle.sheet.specs.Sheet.{read_sheet}
use Rattle.sheet.specs.Table.{table_in}
use Rattle.sheet.specs.Write.{filled, filled_cells}
use Rattle.sheet.proofs.Accepted.{sheet-accepted, cells_are}
use Rattle.sheet.proofs.Filled.{filled_none, filled-one, length-sheet, length_most}
use Rattle.sheet.proofs.Refusals.{sheet-most}
use Rattle.sheet.proofs.RoundTrip.{cells_again}
use Rattle.inlet.specs.Join.{joined_table, alike, joint_total, joined_sheet, join_answer}
use Rattle.inlet.proofs.ReadBack.{Joinable, cell_joined}

module _ (f s : List ℕ) (size : ℕ) (long : 32780 ≤ size) where
  answer-most : (join_answer f s size).refusal ≤ 51
  unfolding join_answer joined_sheet
  answer-most =
      let g : WrittenAnswer → ℕ = λ a. a.refusal in
      let k = (read_sheet f).refusal in
      let j = (read_sheet s).refusal in
      let z : 0 ≤ 51 = omega arith in
      elim (ℕ_discrete k 0) [
        | no d ↦ rw (ne_eqb k 0 d) (omega (arith, sheet-most f))
        | yes e ↦
            let fits = length_most (read_sheet f).n (read_sheet f).t (joined_table f s) (sheet-accepted f e).n_high in
            rw (le-ltb size (length (joined_sheet f s)) (omega (arith, fits)))
            (most g 51 (not (eqb k 0)) (refused k) _ (omega (arith, sheet-most f))
            (most g 51 (not (eqb j 0)) (refused j) _ (omega (arith, sheet-most s))
            (most g 51 (not (alike f s)) (refused 51) _ (omega arith)
            (most g 51 (ltb max_total (joint_total f s)) (refused 7) _ (omega arith) z))))
      ]

  -- THEOREM. A call with a buffer of 32,780 bytes is never refused with 52, whatever the sheets.
  pub never_52 : (join_answer f s size).refusal ≢ 52
  never_52 e = omega (arith, answer-most)

-- ---- the length of the joined sheet

module _ {f s : List ℕ} (d : Joinable f s) where
  -- a cell of the joined sheet is a cell of one of the two
  one : (c : ℕ) → length (filled (joined_table f s) c) ≤ length (filled (table_in f) c) + length (filled (table_in s) c)
  one c = elim (ℕ_discrete (at (table_in f) c) 0) [
    | no e ↦ rw (filled-one (table_in f) c e, filled-one (joined_table f s) c (λ z. e (omega (arith, cell_joined d c)))) (omega arith)
    | yes a ↦ elim (ℕ_discrete (at (table_in s) c) 0) [
      | no e ↦ rw (filled-one (table_in s) c e, filled-one (joined_table f s) c (λ z. e (omega (arith, cell_joined d c)))) (omega arith)
      | yes b ↦ rw (filled_none (joined_table f s) c (cell_joined d c ∙ omega arith)) (omega arith)
    ]
  ]

  few : (k : ℕ)
      → length (collect k (filled (joined_table f s))) ≤ length (collect k (filled (table_in f))) + length (collect k (filled (table_in s)))
  unfolding collect
  few zero = omega arith
  few (suc k) = simp length-append (omega (arith, few k, one k))

  -- THEOREM. The joined sheet has no more entries than the two together, so it is no longer than both less one header of 12 bytes.
  pub joined_length : length (joined_sheet f s) + 12 ≤ length f + length s
  unfolding joined_sheet
  joined_length =
      let a = sheet-accepted f d.first in
      let b = sheet-accepted s d.second in
      omega (
        arith,
        length-sheet (read_sheet f).n (read_sheet f).t (joined_table f s),
        few (64 * (read_sheet f).n),
        ap length (cells_again f (read_sheet f) a),
        cells_are f (read_sheet f) a,
        ap (λ (n : ℕ). length (filled_cells n (table_in s))) d.nodes,
        ap length (cells_again s (read_sheet s) b),
        cells_are s (read_sheet s) b,
        a.size,
        b.size,
      )
