-- `words::lists::every` meets its contract: at the loop's head the whole answer is that of the words that are left. Assumes nothing.
use mathlib.Core.Path.{◌≡◌}
use mathlib.Core.Bool.{Bool}
use Prim.Native.Nat.{ℕ}
use lib.ListN.{drop}
use Rattle.fold.specs.All.{every}
use Rattle.words.specs.Words.{words, part}
use Rattle.words.specs.Tests.{Tests}
use Rattle.words.proofs.lists.every.Given as goal

abbrev pub invariant-loop-i : goal.invariant-loop-i
invariant-loop-i g l =
    let ws = part l.first l.k (words l.s) in
    (ok : ℕ → Bool) → Tests (goal.F-post g l.test) ok → every ok ws ≡ every ok (drop l.i ws)
