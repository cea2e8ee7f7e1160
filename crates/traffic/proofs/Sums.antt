-- The sums that the page prints, of a sheet and moves that pass the checks: what the counts come to is no more than P, and each of the two
-- columns comes to just that. Assumes nothing.
use mathlib.Core.Path.{◌≡◌}
use mathlib.Core.List.{List}
use Prim.Native.Nat.{ℕ, ◌^◌, ◌≤◌, ◌<◌}
use native.Mathlib.Omega.{arith}
use lib.ListN.{length, get_or}
use Rattle.fold.specs.Sum.{sum, total}
use Rattle.limit.specs.Limit.{max_total}
use Rattle.sheet.specs.Sheet.{read_sheet}
use Rattle.sheet.specs.Table.{table_in}
use Rattle.sheet.proofs.Accepted.{Accepted, sheet-accepted}
use Rattle.sheet.proofs.Tables.{length-table, table-sum, table-within}
use Rattle.moves.specs.Moves.{sender, receiver}
use Rattle.moves.proofs.Laws.{FineRoute, route-is}
use Rattle.transfer.proofs.Acceptable.{Acceptable}
use Rattle.transfer.proofs.Kept.{acceptable_fine, acceptable_below}
use Rattle.transfer.proofs.Counts.{moved-most, sum_moved, counts-within}
use Rattle.carry.specs.Checks.{routes_in, counts_in}
use Rattle.carry.proofs.Checks.{Carriable}
use Rattle.carry.proofs.ReadBack.{acceptable}
use Rattle.traffic.specs.Page.{sent_by, received_by}

module _ {s m : List ℕ} (d : Carriable s m) where
  abbrev n : ℕ
  n = (read_sheet s).n

  facts : Accepted s (read_sheet s)
  facts = sheet-accepted s d.sheet

  moves_fine : Acceptable n (routes_in m) (counts_in m)
  moves_fine = acceptable d

  -- THEOREM. What the moves' counts come to is at most P.
  pub total-most : total (counts_in m) ≤ (read_sheet s).p
  total-most =
      omega (
        arith,
        counts-within (table_in s) (routes_in m) (counts_in m) (length-table s (read_sheet s).e) moves_fine.same
            (acceptable_below n facts.n_high (routes_in m) (counts_in m) moves_fine) d.within,
        table-sum s (read_sheet s) facts,
      )

  pub total-small : total (counts_in m) ≤ max_total
  total-small = omega (arith, total-most, table-sum s (read_sheet s) facts, table-within s (read_sheet s) facts)

  -- ---- the two columns

  route_fine_lem : (i : ℕ) → i < length (routes_in m) → FineRoute n (get_or (routes_in m) i 0)
  route_fine_lem i l = route-is n (get_or (routes_in m) i 0) (acceptable_fine n facts.n_high (routes_in m) (counts_in m) moves_fine i l)

  -- THEOREM. Both columns come to the sum of the counts in the moves record.
  pub sent-sum : sum n (sent_by m) ≡ total (counts_in m)
  sent-sum = sum_moved sender n (routes_in m) (counts_in m) moves_fine.same (λ i l. (route_fine_lem i l).sender_below)

  pub received-sum : sum n (received_by m) ≡ total (counts_in m)
  received-sum = sum_moved receiver n (routes_in m) (counts_in m) moves_fine.same (λ i l. (route_fine_lem i l).receiver_below)

  -- THEOREM. So no number on the page is above P.
  pub sent-most : (k : ℕ) → sent_by m k ≤ (read_sheet s).p
  sent-most k = omega (arith, moved-most sender (routes_in m) (counts_in m) k, total-most)

  pub received-most : (k : ℕ) → received_by m k ≤ (read_sheet s).p
  received-most k = omega (arith, moved-most receiver (routes_in m) (counts_in m) k, total-most)

  -- THEOREM. And none needs more than ten columns, for P is at most 1,000,000,000: neither a total nor a node's number.
  pub ten_columns : (total (counts_in m) < 10 ^ 10) × ((k : ℕ) → (sent_by m k < 10 ^ 10) × (received_by m k < 10 ^ 10))
  ten_columns = (
    omega (arith, total-small),
    λ k. (
      omega (arith, moved-most sender (routes_in m) (counts_in m) k, total-small),
      omega (arith, moved-most receiver (routes_in m) (counts_in m) k, total-small),
    ),
  )
