-- `words::words_64` meets its contract: what stands behind the words is zeros. Assumes nothing.
use mathlib.Core.Path.{ap, ◌∙◌}
use mathlib.Core.List.{List, ◌++◌}
use Prim.Native.Nat.{ℕ}
use native.Mathlib.Omega.{arith}
use lib.ListN.{length, replicate}
use Rattle.std.proofs.lemmas.List.{drop-replicate}
use Rattle.words.specs.Words.{words, part}
use Rattle.words.proofs.Words.{length-words}
use Rattle.words.proofs.Buffer.{read_placed}
use Rattle.words.proofs.words_64.Goals as goal

pub returns : goal.returns
returns c =
    let a = c.args in
    let ws = words a.s.now in
    let xs = part a.first a.k ws in
    read_placed ws (replicate 64 0) _ a.first a.k (simp length-words (omega arith)) (omega arith) c.get_words.ensures
    ∙ ap (λ (ys : List ℕ). xs ++ ys) (drop-replicate (length xs) 64 0)
