-- Joining with a sheet without particles gives the same bytes back. Assumes nothing.
use mathlib.Core.Path.{◌≡◌, refl, sym, ap, ◌∙◌}
use mathlib.Core.List.{List, []}
use Prim.Native.Nat.{ℕ, zero, suc, ◌*◌, ◌≤◌}
use native.Mathlib.Omega.{arith}
use lib.ListN.{length}
use Rattle.fold.specs.Sum.{sum}
use Rattle.fold.specs.Collect.{collect}
use Rattle.fold.proofs.Sums.{sum_zeros}
use Rattle.limit.specs.Limit.{table_size, limit_of}
use Rattle.arrays.specs.Arrays.{at}
use Rattle.words.specs.Buffer.{placed}
use Rattle.words.specs.Answer.{accepted}
use Rattle.words.proofs.Words.{Below}
use Rattle.sheet.specs.declared.SheetAnswer.{SheetAnswer}
use Rattle.sheet.specs.Sheet.{read_sheet, accepted as sheet_accepted}
use Rattle.sheet.specs.Table.{table_in}
use Rattle.sheet.specs.Write.{filled, sheet_bytes}
use Rattle.sheet.proofs.Accepted.{Accepted, sheet-accepted}
use Rattle.sheet.proofs.Tables.{zeros, length-zeros, no_count, length-table}
use Rattle.sheet.proofs.Filled.{filled_none}
use Rattle.sheet.proofs.RoundTrip.{Writable, read-written, table_in_written, written_read}
use Rattle.inlet.specs.Join.{joined_sheet, join_answer, joined_after, empty_sheet}
use Rattle.inlet.proofs.Tables.{added_none}
use Rattle.inlet.proofs.ReadBack.{Joinable, joins}
use Rattle.inlet.proofs.Order.{join_order}

-- ---- the sheet without particles is that of a table without counts

no_cells : (k : ℕ) → collect k (filled zeros) ≡ []
unfolding collect
no_cells zero = refl
no_cells (suc k) = rw (no_cells k, filled_none zeros k (no_count k))

empty_is : (n t : ℕ) → sheet_bytes n t zeros ≡ empty_sheet n t
unfolding sheet_bytes
empty_is n t = rw (no_cells (64 * n))

-- ---- beside an accepted sheet, of its N and t

module _ (s : List ℕ) (q : (read_sheet s).refusal ≡ 0) where
  abbrev n₀ : ℕ
  n₀ = (read_sheet s).n

  abbrev t₀ : ℕ
  t₀ = (read_sheet s).t

  -- the empty sheet
  abbrev z₀ : List ℕ
  z₀ = empty_sheet n₀ t₀

  facts : Accepted s (read_sheet s)
  facts = sheet-accepted s q

  zeros-writable : Writable n₀ t₀ zeros
  zeros-writable =
      record {
        n_low = facts.n_low;
        n_high = facts.n_high;
        t_low = facts.t_low;
        t_high = facts.t_high;
        size = length-zeros;
        outside = λ c f. no_count c;
        within = omega (arith, no_sum);
      }
    where
      no_sum : sum table_size (at zeros) ≡ 0
      no_sum = sum_zeros table_size (at zeros) (λ c l. no_count c)

  -- it is accepted, without entries and particles
  pub empty_read : read_sheet z₀ ≡ sheet_accepted n₀ t₀ 0 0 (limit_of 0 n₀ t₀)
  empty_read =
      ap read_sheet (sym (empty_is n₀ t₀))
      ∙ read-written n₀ t₀ zeros zeros-writable
      ∙ rw (ap length (no_cells (64 * n₀)), sum_zeros table_size (at zeros) (λ c l. no_count c))

  empty_table : table_in z₀ ≡ zeros
  empty_table = ap table_in (sym (empty_is n₀ t₀)) ∙ table_in_written n₀ t₀ zeros zeros-writable

  empty_joinable : Joinable s z₀
  empty_joinable =
      record {
        first = q;
        second = ap (λ (a : SheetAnswer). a.refusal) empty_read;
        nodes = sym (ap (λ (a : SheetAnswer). a.n) empty_read);
        tolerance = sym (ap (λ (a : SheetAnswer). a.t) empty_read);
        within = omega (arith, ap (λ (a : SheetAnswer). a.p) empty_read, facts.sum.within);
      }

  joined_same : Below 256 s → joined_sheet s z₀ ≡ s
  unfolding joined_sheet
  joined_same bytes =
      ap (sheet_bytes n₀ t₀)
      (added_none (table_in s) (table_in z₀) (length-table s (read_sheet s).e) (length-table z₀ (read_sheet z₀).e)
      (λ c. ap (λ (x : List ℕ). at x c) empty_table ∙ no_count c))
      ∙ written_read s (read_sheet s) facts bytes

  -- THEOREM. An accepted sheet joined with the empty sheet of its N and t, in either order: its own bytes, and its own length.
  pub join_empty : Below 256 s → (out : List ℕ) → length s ≤ length out
      → (join_answer s z₀ (length out) ≡ accepted (length s)) × (joined_after s z₀ out ≡ placed s out)
  join_empty bytes out fits =
      let same = joined_same bytes in
      let a : join_answer s z₀ (length out) ≡ accepted (length s) =
      joins s z₀ (length out) empty_joinable (rw same fits) ∙ ap (λ (x : List ℕ). accepted (length x)) same in
      (a, rw (a, same))

  pub join-to_empty : Below 256 s → (out : List ℕ) → length s ≤ length out
      → (join_answer z₀ s (length out) ≡ accepted (length s)) × (joined_after z₀ s out ≡ placed s out)
  join-to_empty bytes out fits =
      let o = join_order z₀ s empty_joinable.second q out in
      let e = join_empty bytes out fits in
      (o.0 ∙ e.0, o.1 ∙ e.1)
