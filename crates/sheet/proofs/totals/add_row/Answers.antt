use mathlib.Core.Path.{◌≡◌, ap, ◌∙◌}
use mathlib.Core.List.{List}
use Prim.Native.Nat.{ℕ, ◌+◌}
use native.Mathlib.Omega.{arith}
use lib.ListN.{length-set}
use Rattle.fold.proofs.Sums.{sum_more}
use Rattle.arrays.specs.Arrays.{at}
use Rattle.arrays.proofs.Tabulate.{tabulate-at, tabulate-behind, tabulate-is, stored-below, stored-behind}
use Rattle.sheet.specs.Table.{held}
use Rattle.sheet.specs.Totals.{total_of}
use Rattle.sheet.proofs.Totalled.{total-le}
use Rattle.sheet.proofs.totals.add_row.Goals.{In-loop-n}
use Rattle.sheet.proofs.totals.add_row.Goals as goal

-- the holder's count goes to what is there
more : (c : In-loop-n) →
    let a = c.args in
    let n = c.loop-n.n in
    at c.loop-n.totals n + held a.table.now a.holder n ≡ total_of (a.holder + 1) a.table.now n
more c =
    let a = c.args in
    let n = c.loop-n.n in
    omega (
      arith,
      c.loop-n.invariant.2 n (omega arith),
      ap (λ (xs : List ℕ). at xs n) c.requires.3,
      tabulate-at a.nodes (total_of a.holder a.table.now) n c.loop-n-test.true,
      sum_more a.holder (λ k. held a.table.now k n),
    )

-- and stays within 32 bits
pub overflow_add-totals-in-loop-n : goal.overflow_add-totals-in-loop-n
overflow_add-totals-in-loop-n c =
    let a = c.args in
    omega (
      arith,
      more (goal.at.overflow_add-totals-in-loop-n c).In-loop-n,
      total-le a.table.now (a.holder + 1) c.loop-n.n (omega arith) (omega arith),
    )

pub loop-n-preserved : goal.loop-n-preserved
loop-n-preserved c =
    let a = c.args in
    let out = c.loop-n.totals in
    let n = c.loop-n.n in
    let v = at out n + held a.table.now a.holder n in (
      simp length-set c.loop-n.invariant.0,
      stored-below out n v (total_of (a.holder + 1) a.table.now) (omega arith) (more (goal.at.loop-n-preserved c).In-loop-n)
          c.loop-n.invariant.1,
      stored-behind out n v (at a.totals.now) c.loop-n.invariant.2,
    )

pub returns : goal.returns
returns c =
    let a = c.args in
    let e : c.loop-n.n ≡ a.nodes = omega arith in
    tabulate-is a.nodes (total_of (a.holder + 1) a.table.now) (omega arith) c.loop-n.totals c.loop-n.invariant.0
    (rw e at c.loop-n.invariant.1)
    (λ k b.
    c.loop-n.invariant.2 k (omega arith)
    ∙ ap (λ (xs : List ℕ). at xs k) c.requires.3
    ∙ tabulate-behind a.nodes (total_of a.holder a.table.now) k b)
