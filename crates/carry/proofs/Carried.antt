-- What carrying out needs of a sheet and moves that were accepted, and one law for each way out: the answer, and the buffer as it is
-- then. Assumes nothing.
use mathlib.Core.Path.{◌≡◌, refl, ap, ◌∙◌}
use mathlib.Core.Bool.{true, false}
use mathlib.Core.List.{List}
use Prim.Native.Nat.{ℕ, ◌≤◌}
use native.Mathlib.Omega.{arith}
use lib.Dec.{ltb}
use lib.ListN.{length}
use Rattle.fold.specs.Sum.{sum}
use Rattle.limit.specs.Limit.{max_total, table_size}
use Rattle.arrays.specs.Arrays.{at}
use Rattle.words.specs.Checks.{refuse_if}
use Rattle.words.specs.Buffer.{written, writing, too_short}
use Rattle.words.specs.Answer.{refused, accepted}
use Rattle.words.specs.declared.WrittenAnswer.{WrittenAnswer}
use Rattle.words.proofs.Writing.{Ends, ends_written, ends_short}
use Rattle.sheet.specs.declared.Sheet.{Sheet}
use Rattle.sheet.specs.declared.SheetAnswer.{SheetAnswer}
use Rattle.sheet.specs.Sheet.{accepted as sheet_accepted}
use Rattle.sheet.specs.Table.{table_of}
use Rattle.sheet.specs.Write.{sheet_bytes}
use Rattle.sheet.proofs.Tables.{table-within}
use Rattle.moves.specs.declared.Moves.{Moves}
use Rattle.moves.specs.Moves.{routes_of, counts_of}
use Rattle.transfer.specs.Apply.{carried}
use Rattle.transfer.specs.Inner.{Ready}
use Rattle.carry.specs.declared.check.CheckRefusal.{CheckRefusal}
use Rattle.carry.specs.declared.check.CheckRefusal.TheVariants.{Sends}
use Rattle.carry.specs.Checks.{check_number, within_in, checked}
use Rattle.carry.specs.Carry.{next_table, next_sheet, carry_answer}
use Rattle.carry.specs.Inner.{PairAccepted}
use Rattle.carry.proofs.Checks.{carriable_checked, stops_sends, stops_nowhere, ends_checked, sheet_facts, ready}
use Rattle.std.specs.Prelude.{Err, Ok}

-- ---- what applying the moves asks, and what it gives

module _ {s m : List ℕ} {h : Sheet} {q : Moves} (r : PairAccepted s m h q) {table : List ℕ} (is : table ≡ table_of s h.e) where
  pub appliable : Ready table m q.e × (sum table_size (at table) ≤ max_total)
  appliable = (ready r is, rw is (table-within s (sheet_accepted h.n h.t h.e h.p h.limit) (sheet_facts r)))

  pub carried-is : carried table (routes_of m q.e) (counts_of m q.e) ≡ next_table s m
  carried-is = rw (is, ← r.sheet, ← r.moves)

-- ---- the ways out

module _ (s m out : List ℕ) where
  -- what was answered, and the buffer as it is then
  abbrev pub CarryEnds : WrittenAnswer → List ℕ → Type 0
  CarryEnds a out₁ = Ends (carry_answer s m (length out)) (next_sheet s m) out a out₁

  pub ends_refused : (r : CheckRefusal) → check_number r ≡ checked s m → CarryEnds (refused (check_number r)) out
  unfolding carry_answer
  ends_refused = ends_checked s m (carry_answer s m (length out)) _ refl (next_sheet s m) out

-- the sheet and the moves were read
module _ {s m : List ℕ} {h : Sheet} {q : Moves} (r : PairAccepted s m h q) (out : List ℕ) where
  pub ends_sends : within_in s m ≡ false → CarryEnds s m out (refused 42) out
  ends_sends f = ends_refused s m out Sends (stops_sends r f)

  -- past 42: the table that follows was handed to the writer
  module _ (w : within_in s m ≡ true) {table : List ℕ} (is : table ≡ next_table s m) where
    abbrev rec : List ℕ
    rec = sheet_bytes h.n h.t table

    next-is : rec ≡ next_sheet s m
    unfolding next_sheet
    next-is = ap (sheet_bytes h.n h.t) is ∙ ap (λ (a : SheetAnswer). sheet_bytes a.n a.t (next_table s m)) r.sheet

    last : carry_answer s m (length out)
        ≡ refuse_if (ltb (length out) (length (next_sheet s m))) (refused 43) (accepted (length (next_sheet s m)))
    unfolding carry_answer
    last = rw (carriable_checked s m (stops_nowhere r w))

    pub ends_carried : (size : ℕ) → Ok size ≡ writing rec out → CarryEnds s m out (accepted size) (written rec out)
    ends_carried = ends_written (carry_answer s m (length out)) (next_sheet s m) out 43 last next-is

    pub ends_unwritten : Err too_short ≡ writing rec out → CarryEnds s m out (refused 43) (written rec out)
    ends_unwritten = ends_short (carry_answer s m (length out)) (next_sheet s m) out 43 last next-is (λ z. omega arith)
