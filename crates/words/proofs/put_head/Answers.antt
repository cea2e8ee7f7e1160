-- `words::put_head` meets its contract: three words in a row are one run of bytes. Assumes nothing.
use mathlib.Core.Path.{ap, ◌∙◌}
use mathlib.Core.List.{List}
use Prim.Native.Nat.{ℕ}
use Rattle.words.specs.Words.{encode, put_word}
use Rattle.words.proofs.put_head.Goals as goal

pub returns : goal.returns
unfolding encode
returns c =
    let a = c.args in
    c.put_word-3.ensures
    ∙ ap (λ (o : List ℕ). put_word o 8 a.c) (c.put_word-2.ensures ∙ ap (λ (o : List ℕ). put_word o 4 a.b) c.put_word.ensures)
