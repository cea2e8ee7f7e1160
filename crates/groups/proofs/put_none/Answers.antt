-- `groups::put_none` meets its contract: N and two rows of 64 are one record. Assumes nothing.
use mathlib.Core.Path.{ap, ◌∙◌}
use mathlib.Core.List.{List}
use Prim.Native.Nat.{ℕ, ◌+◌, ◌*◌}
use lib.ListN.{take, replicate}
use lib.Seq.{sets}
use Rattle.words.specs.Words.{encode}
use Rattle.groups.specs.Group.{none}
use Rattle.groups.proofs.Placing.{none-placed}
use Rattle.groups.proofs.put_none.Goals as goal

pub returns : goal.returns
returns c =
    let n = c.args.n in
    let row = encode (take n (replicate 64 none)) in
    c.put_words-2.ensures
    ∙ ap (λ (o : List ℕ). sets o (4 * (1 + n)) row)
    (c.put_words.ensures ∙ ap (λ (o : List ℕ). sets o 4 row) c.put_word.ensures)
    ∙ none-placed n c.args.out.now c.requires.0 c.requires.1
