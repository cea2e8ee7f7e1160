-- The totals and the sum of the table: a table of 4,096 counts is 64 rows of 64, and a sum over all cells may be taken row by row or
-- column by column. Assumes nothing.
use mathlib.Core.Path.{◌≡◌, sym, ◌∙◌}
use mathlib.Core.List.{List}
use Prim.Native.Nat.{ℕ, zero, suc, ◌+◌, ◌*◌, ◌≤◌, ◌<◌}
use native.Mathlib.Omega.{arith}
use Rattle.fold.specs.Sum.{sum}
use Rattle.fold.proofs.Sums.{sum-none, sum-suc, sum-le, sum-eq, sum_zeros, sum_term, sum_exchange, sum-split, sum_fewer, sum-rest}
use Rattle.limit.specs.Limit.{max_nodes, table_size}
use Rattle.arrays.specs.Arrays.{at}
use Rattle.sheet.specs.Table.{held}
use Rattle.sheet.specs.Totals.{total_of}

-- ---- sums

-- so many rows of 64
sum_rows : (rows : ℕ) (f : ℕ → ℕ) → sum (64 * rows) f ≡ sum rows (λ i. sum 64 (λ j. f (64 * i + j)))
sum_rows zero f =
    let e : 64 * 0 ≡ 0 = omega arith in
    rw e (sum-none f ∙ sym (sum-none (λ i. sum 64 (λ j. f (64 * i + j)))))
sum_rows (suc rows) f =
    let e : 64 * suc rows ≡ 64 * rows + 64 = omega arith in
    rw e (omega (arith, sum-split (64 * rows) 64 f, sum_rows rows f, sum-suc rows (λ i. sum 64 (λ j. f (64 * i + j)))))

-- ---- tables

module _ (table : List ℕ) where
  by_rows : sum table_size (at table) ≡ sum 64 (λ k. sum 64 (λ n. held table k n))
  by_rows = sum_rows 64 (at table)

  -- THEOREM. No total is above the sum of the table, of however many holders.
  pub total-le : (holders n : ℕ) → holders ≤ max_nodes → n < 64 → total_of holders table n ≤ sum table_size (at table)
  total-le holders n l b =
      omega (
        arith,
        by_rows,
        sum_fewer holders 64 (λ k. held table k n) l,
        sum-le 64 (λ k. held table k n) (λ k. sum 64 (λ j. held table k j)) (λ k c. sum_term 64 (λ j. held table k j) n b),
      )

  -- THEOREM. Where the cells that name a node not below N are 0, the totals add up to the sum of the table.
  pub totals-sum : (nodes : ℕ) → nodes ≤ max_nodes → ((k n : ℕ) → n < 64 → (k < nodes → n < nodes → ⊥) → held table k n ≡ 0)
      → sum nodes (total_of nodes table) ≡ sum table_size (at table)
  totals-sum nodes l outside =
      sum_exchange nodes nodes (λ n k. held table k n)
      ∙ sum-eq nodes (λ k. sum nodes (λ n. held table k n)) (λ k. sum 64 (λ n. held table k n))
      (λ k b. sum-rest nodes 64 (λ n. held table k n) l (λ n c d. outside k n d (λ _ e. omega arith)))
      ∙ sum-rest nodes 64 (λ k. sum 64 (λ n. held table k n)) l
      (λ k c d. sum_zeros 64 (λ n. held table k n) (λ n e. outside k n e (λ f _. omega arith)))
      ∙ sym by_rows
