-- The counts of moves, added up: those that end somewhere are no more than all, over all ends they are all, and where no cell is short
-- they are no more than the table holds. And by node: what it sends and receives in all is what its cells do. Assumes nothing.
use mathlib.Core.Path.{◌≡◌}
use mathlib.Core.Bool.{true}
use mathlib.Core.List.{List, [], ◌∷◌}
use Prim.Native.Nat.{ℕ, suc, ◌+◌, ◌*◌, ◌≤◌, ◌<◌}
use native.Mathlib.Omega.{arith}
use lib.Dec.{eqb}
use lib.ListN.{length, get_or}
use Rattle.fold.specs.Sum.{only, sum, total}
use Rattle.fold.proofs.Tests.{only-max}
use Rattle.fold.proofs.Sums.{sum-add, sum-le, sum-zero}
use Rattle.limit.specs.Limit.{max_nodes, table_size}
use Rattle.arrays.specs.Arrays.{at}
use Rattle.sheet.specs.Sheet.{cell}
use Rattle.sheet.specs.Table.{held}
use Rattle.moves.specs.Moves.{subdomain, sender, receiver}
use Rattle.moves.proofs.Laws.{route-is}
use Rattle.transfer.specs.Apply.{from_cell, moved, sends, sends_within, carried}
use Rattle.transfer.proofs.Applied.{from-below, within-at}
use Rattle.transfer.proofs.Kept.{RoutesFine, cells-after, one_of, row_one}

module _ (end : ℕ → ℕ) where
  pub moved-most : (routes counts : List ℕ) (c : ℕ) → moved end routes counts c ≤ total counts
  unfolding moved total
  moved-most [] counts c = omega arith
  moved-most (r ∷ rs) [] c = omega arith
  moved-most (r ∷ rs) (count ∷ counts) c = omega (arith, only-max (eqb (end r) c) count, moved-most rs counts c)

  -- THEOREM. Added up over all ends, the moves come to the sum of their counts.
  pub sum_moved : (m : ℕ) (routes counts : List ℕ) → length routes ≡ length counts
      → ((i : ℕ) → i < length routes → end (get_or routes i 0) < m) → sum m (moved end routes counts) ≡ total counts
  unfolding moved total
  sum_moved m [] [] e below = sum-zero m
  sum_moved m [] (count ∷ counts) e below = absurd (omega arith)
  sum_moved m (r ∷ rs) [] e below = absurd (omega arith)
  sum_moved m (r ∷ rs) (count ∷ counts) e below =
      omega (
        arith,
        sum-add m (λ k. only (eqb (end r) k) count) (moved end rs counts),
        one_of m (end r) count (below 0 (omega arith)),
        sum_moved m rs counts (omega arith) (λ i l. below (suc i) (omega arith)),
      )

-- THEOREM. Where no cell sends more than it has, the counts come to no more than the table holds.
pub counts-within : (table routes counts : List ℕ) → length table ≡ table_size → length routes ≡ length counts
    → ((i : ℕ) → i < length routes → get_or routes i 0 < 64 * table_size) → sends_within table routes counts ≡ true
    → total counts ≤ sum table_size (at table)
counts-within table routes counts size same below within =
    omega (
      arith,
      sum_moved from_cell table_size routes counts same (λ i l. from-below (get_or routes i 0) (below i l)),
      sum-le table_size (sends routes counts) (at table) (λ c l. within-at table routes counts within c (omega (arith, size))),
    )

-- ---- by node

module _ (nodes : ℕ) (h64 : nodes ≤ max_nodes) (k : ℕ) where
  -- what ends at the node is what ends at its cells
  row-sum : (end : ℕ → ℕ) (routes counts : List ℕ) → ((i : ℕ) → i < length routes → subdomain (get_or routes i 0) < nodes)
      → sum nodes (λ n. moved (λ r. cell (end r) (subdomain r)) routes counts (cell k n)) ≡ moved end routes counts k
  unfolding moved
  row-sum end [] counts fine = sum-zero nodes
  row-sum end (r ∷ rs) [] fine = sum-zero nodes
  row-sum end (r ∷ rs) (count ∷ counts) fine =
      omega (
        arith,
        sum-add nodes (λ n. only (eqb (cell (end r) (subdomain r)) (cell k n)) count)
            (λ n. moved (λ x. cell (end x) (subdomain x)) rs counts (cell k n)),
        row_one nodes (end r) (subdomain r) k count h64 (fine 0 (omega arith)),
        row-sum end rs counts (λ i l. fine (suc i) (omega arith)),
      )

  -- THEOREM. Where no cell is short, the node holds after the moves what it held, less what it sends, plus what it receives.
  pub holding-after : (table routes counts : List ℕ) → length table ≡ table_size → RoutesFine nodes routes → k < nodes
      → sends_within table routes counts ≡ true
      → sum nodes (λ n. held (carried table routes counts) k n) + moved sender routes counts k
      ≡ sum nodes (λ n. held table k n) + moved receiver routes counts k
  holding-after table routes counts size fine hk within =
      let below : (i : ℕ) → i < length routes → subdomain (get_or routes i 0) < nodes =
      λ i l. (route-is nodes (get_or routes i 0) (fine i l)).subdomain_below in
      omega (
        arith,
        cells-after nodes (λ n. cell k n) table routes counts (λ n l. omega (arith, size)) within,
        row-sum sender routes counts below,
        row-sum receiver routes counts below,
      )
