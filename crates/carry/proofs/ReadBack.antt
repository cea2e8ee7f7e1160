-- What *carry out* accepted, taken apart, and the sheet that follows read again: its table can be written, since accepted moves
-- keep the sum and name no other node, and what can be written is read back. Assumes nothing.
use mathlib.Core.Path.{◌≡◌, refl, sym, ap, ◌∙◌}
use mathlib.Core.List.{List}
use Prim.Native.Nat.{ℕ, ◌*◌, ◌≤◌}
use native.Mathlib.Omega.{arith}
use borrow.Author.Tests.{ltb-false, le-ltb}
use lib.Dec.{ltb}
use lib.ListN.{length, take}
use Rattle.fold.specs.Sum.{sum}
use Rattle.fold.proofs.Tests.{passed, handed}
use Rattle.limit.specs.Limit.{limit_of, table_size}
use Rattle.words.specs.declared.WrittenAnswer.{WrittenAnswer}
use Rattle.words.specs.Answer.{refused, accepted}
use Rattle.words.proofs.Buffer.{after_front}
use Rattle.arrays.specs.Arrays.{at}
use Rattle.sheet.specs.declared.SheetAnswer.{SheetAnswer}
use Rattle.sheet.specs.Sheet.{read_sheet, accepted as sheet_accepted}
use Rattle.sheet.specs.Table.{table_in}
use Rattle.sheet.specs.Write.{filled_cells, longest_sheet}
use Rattle.sheet.proofs.Accepted.{Accepted, sheet-accepted}
use Rattle.sheet.proofs.Tables.{length-table, table-sum}
use Rattle.sheet.proofs.RoundTrip.{Writable, read-written, table_in_written, sheet-writable}
use Rattle.moves.specs.Moves.{read_moves}
use Rattle.moves.proofs.Accepted.{moves-accepted, routes_are, counts_are}
use Rattle.transfer.proofs.Acceptable.{Acceptable}
use Rattle.transfer.proofs.Kept.{acceptable_below, sum_kept, writable-kept}
use Rattle.carry.specs.Checks.{routes_in, counts_in, checked}
use Rattle.carry.specs.Carry.{next_table, next_sheet, carry_answer, next_after, SheetReadBack}
use Rattle.carry.proofs.Checks.{Carriable, carriable, carriable_checked}

-- ---- accepted: every check passed

module _ (s m : List ℕ) (size : ℕ) where
  pub carried-out : (carry_answer s m size).refusal ≡ 0 → Carriable s m × (length (next_sheet s m) ≤ size)
  unfolding carry_answer
  carried-out q =
      let f : WrittenAnswer → ℕ = λ a. a.refusal in
      let a₁ = handed f refused (λ k. refl) (checked s m) _ q in
      let a₂ = passed f (ltb size (length (next_sheet s m))) (refused 43) _ (λ z. omega arith) a₁.1 in
      (carriable s m a₁.0, ltb-false size (length (next_sheet s m)) a₂.0)

  -- and conversely
  pub carries_out : Carriable s m → length (next_sheet s m) ≤ size → carry_answer s m size ≡ accepted (length (next_sheet s m))
  unfolding carry_answer
  carries_out d fits = rw (carriable_checked s m d, le-ltb size (length (next_sheet s m)) fits)

-- ---- the table that follows

module _ {s m : List ℕ} (d : Carriable s m) where
  abbrev n₀ : ℕ
  n₀ = (read_sheet s).n

  abbrev t₀ : ℕ
  t₀ = (read_sheet s).t

  abbrev entries : ℕ
  entries = length (filled_cells n₀ (next_table s m))

  facts : Accepted s (read_sheet s)
  facts = sheet-accepted s d.sheet

  pub acceptable : Acceptable n₀ (routes_in m) (counts_in m)
  acceptable =
      let k = moves-accepted m d.moves in
      let a = read_moves m in
      rw d.nodes
      (record {
        same = routes_are m a k ∙ sym (counts_are m a k);
        few = omega (arith, k.e_high, routes_are m a k);
        routes_fine = k.routes;
        counts_fine_lem = k.counts;
      })

  next-writable : Writable n₀ t₀ (next_table s m)
  next-writable = writable-kept n₀ t₀ (table_in s) (routes_in m) (counts_in m) (sheet-writable s (read_sheet s) facts) acceptable d.within

  -- no particle is lost
  pub next-sum : sum table_size (at (next_table s m)) ≡ (read_sheet s).p
  next-sum =
      sum_kept (table_in s) (routes_in m) (counts_in m) (length-table s (read_sheet s).e)
      (acceptable_below n₀ facts.n_high (routes_in m) (counts_in m) acceptable) d.within
      ∙ table-sum s (read_sheet s) facts

  next_read : read_sheet (next_sheet s m) ≡ sheet_accepted n₀ t₀ entries (read_sheet s).p (read_sheet s).limit
  unfolding next_sheet
  next_read =
      read-written n₀ t₀ (next_table s m) next-writable
      ∙ ap (λ (p : ℕ). sheet_accepted n₀ t₀ entries p (limit_of p n₀ t₀)) next-sum
      ∙ ap (λ (l : ℕ). sheet_accepted n₀ t₀ entries (read_sheet s).p l) (sym facts.limit_is)

  pub next_back : SheetReadBack s m (next_sheet s m)
  next_back =
      record {
        read = next_read;
        table = unfold next_sheet in table_in_written n₀ t₀ (next_table s m) next-writable;
      }

  -- it is no longer than any sheet of N nodes
  pub next-size : length (next_sheet s m) ≤ longest_sheet n₀
  next-size =
      let k = sheet-accepted (next_sheet s m) (ap (λ (a : SheetAnswer). a.refusal) next_read) in
      let n : (read_sheet (next_sheet s m)).n ≡ n₀ = ap (λ (a : SheetAnswer). a.n) next_read in
      omega (arith, k.size, k.e_high, ap (λ (x : ℕ). x * x) n)

-- ---- the front of the buffer is the sheet that follows

pub next-front : (s m out : List ℕ) → (carry_answer s m (length out)).refusal ≡ 0
    → take (carry_answer s m (length out)).bytes (next_after s m out) ≡ next_sheet s m
next-front s m out q =
    let d = carried-out s m (length out) q in
    let size = ap (λ (a : WrittenAnswer). a.bytes) (carries_out s m (length out) d.0 d.1) in
    rw size (after_front _ (next_sheet s m) out q)

-- THEOREM. After an accepted call the bytes in front of the buffer, of the length given, are read back as what was decided.
pub sheet-read_back : (s m out : List ℕ) → (carry_answer s m (length out)).refusal ≡ 0
    → SheetReadBack s m (take (carry_answer s m (length out)).bytes (next_after s m out))
sheet-read_back s m out q = rw (next-front s m out q) (next_back (carried-out s m (length out) q).0)
