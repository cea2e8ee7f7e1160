-- The page and the sheet that follows: what each node holds before and after differs by what the page prints. Assumes nothing.
use mathlib.Core.Path.{◌≡◌, ap}
use mathlib.Core.List.{List}
use Prim.Native.Nat.{ℕ, ◌+◌, ◌<◌}
use lib.ListN.{length, take}
use Rattle.fold.specs.Sum.{sum}
use Rattle.sheet.specs.declared.SheetAnswer.{SheetAnswer}
use Rattle.sheet.specs.Sheet.{read_sheet}
use Rattle.sheet.specs.Table.{table_in, held}
use Rattle.sheet.proofs.Accepted.{sheet-accepted}
use Rattle.sheet.proofs.Tables.{length-table}
use Rattle.transfer.proofs.Kept.{acceptable_fine}
use Rattle.transfer.proofs.Counts.{holding-after}
use Rattle.carry.specs.Checks.{routes_in, counts_in}
use Rattle.carry.specs.Carry.{next_table, carry_answer, next_after, SheetReadBack}
use Rattle.carry.proofs.Checks.{Carriable}
use Rattle.carry.proofs.ReadBack.{acceptable, sheet-read_back}
use Rattle.traffic.specs.Page.{sent_by, received_by, page_answer, page_after, PageReadBack, holding, PageCarried}
use Rattle.traffic.proofs.Printed.{printed}
use Rattle.traffic.proofs.ReadBack.{page-read_back}

module _ {s m : List ℕ} (d : Carriable s m) where
  -- of the table that follows
  after : (k : ℕ) → k < (read_sheet s).n → sum (read_sheet s).n (λ n. held (next_table s m) k n) + sent_by m k ≡ holding s k + received_by m k
  after k l =
      let n = (read_sheet s).n in
      let high = (sheet-accepted s d.sheet).n_high in
      holding-after n high k (table_in s) (routes_in m) (counts_in m) (length-table s (read_sheet s).e)
      (acceptable_fine n high (routes_in m) (counts_in m) (acceptable d)) l d.within

  -- and of a sheet that is read back as it
  holding-next : {next : List ℕ} → SheetReadBack s m next → (k : ℕ) → holding next k ≡ sum (read_sheet s).n (λ n. held (next_table s m) k n)
  holding-next {next} b k =
      let n : (read_sheet next).n ≡ (read_sheet s).n = ap (λ (a : SheetAnswer). a.n) b.read in
      rw (n, b.table)

  carried_back : {page next : List ℕ} → PageReadBack s m page → SheetReadBack s m next → PageCarried s page next
  carried_back p b =
      record { holds = λ k l. rw (p.sent k l, p.received k l, holding-next b k) (after k l) }

-- THEOREM. Of a sheet and moves that both operations accept: on the sheet that *carry out* writes each node holds what it held, less what
-- the page prints as sent, plus what it prints as received.
pub page-carried : (s m page next : List ℕ) → (page_answer s m (length page)).refusal ≡ 0 → (carry_answer s m (length next)).refusal ≡ 0
    → PageCarried s (take (page_answer s m (length page)).bytes (page_after s m page))
    (take (carry_answer s m (length next)).bytes (next_after s m next))
page-carried s m page next p c =
    carried_back (printed s m (length page) p).0 (page-read_back s m page p) (sheet-read_back s m next c)
