-- `decide::decide_step` meets its contract: an old tree has helpands below the number of nodes, and so have the nodes' own numbers.
-- Assumes nothing.
use borrow.Author.Tests.{lt-ltb}
use lib.Dec.{ltb}
use mathlib.Core.Bool.{true, false, false≢true}
use mathlib.Core.List.{List}
use mathlib.Core.Path.{◌≡◌, ap, ◌∙◌}
use native.Mathlib.Omega.{arith}
use Prim.Native.Nat.{ℕ, ◌<◌}
use Rattle.fold.proofs.Tests.{all_of}
use Rattle.arrays.specs.Arrays.{at}
use Rattle.arrays.proofs.Tabulate.{tabulate-at}
use Rattle.plan.proofs.Trees.{tree-below}
use Rattle.decide.specs.Decide.{decided}
use Rattle.decide.proofs.decide_step.Goals as goal

pub decide-requires : goal.decide-requires
decide-requires c =
    let s = c.requires in
    let rooted = rw c.in-Some.is at s.5 in
    (s.0, s.1, s.2, s.3, s.4, tree-below rooted.1, λ _. rooted)

pub decide-requires-in-None : goal.decide-requires-in-None
decide-requires-in-None c =
    let n = c.args.nodes in
    let s = c.requires in
    let inside : (k : ℕ) → k < n → at c.own_numbers.result k < n =
    λ k l. omega (arith, ap (λ (xs : List ℕ). at xs k) c.own_numbers.ensures, tabulate-at n (λ j. j) k l) in
    (s.0, s.1, s.2, s.3, s.4, all_of n (λ k. ltb (at c.own_numbers.result k) n) (λ k l. lt-ltb _ _ (inside k l)), λ e. absurd (false≢true e))
