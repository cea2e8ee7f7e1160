use mathlib.Core.Path.{◌≡◌, sym, ap, ◌∙◌}
use mathlib.Core.List.{List}
use Prim.Native.Nat.{ℕ, zero, suc, ◌+◌, ◌≤◌}
use native.Mathlib.Numerals.{add-one}
use native.Mathlib.Omega.{arith}
use lib.ListN.{length, take}
use Rattle.std.proofs.Common.{rules, take_all}
use Rattle.std.specs.Prelude.{sum as sum_of}
use Rattle.std.proofs.iter.runs.Sources.{sums}
use Rattle.std.proofs.lemmas.List.Sums.{sum_by_more}
use Rattle.fold.specs.Sum.{sum}
use Rattle.fold.proofs.Sums.{sum-none, sum-suc}
use Rattle.arrays.specs.Arrays.{at}
use Rattle.limit.specs.Limit.{table_size}
use Rattle.archive.proofs.read.sum_counts.Goals as goal

pub sum-requires-clause-fits : goal.sum-requires-clause-fits
sum-requires-clause-fits c = search (rules, sums)

-- the sum of a list's front is that over its indices
front : (xs : List ℕ) (n : ℕ) → n ≤ length xs → sum_of (take n xs) ≡ sum n (at xs)
front xs zero h = sym (sum-none (at xs))
front xs (suc n) h =
    let e : sum_of (take (n + 1) xs) ≡ sum_of (take n xs) + at xs n = sum_by_more (λ x. x) xs n 0 (omega arith) in
    (rw add-one at e) ∙ omega (arith, front xs n (omega arith), sum-suc n (at xs))

pub returns : goal.returns
returns c =
    let xs = c.args.table.now in
    let whole : sum_of xs ≡ sum table_size (at xs) = sym (ap sum_of (take_all table_size xs (omega arith))) ∙ front xs table_size (omega arith) in
    rw (← whole) (search rules)
