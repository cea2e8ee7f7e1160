-- `plan::write::put_plan` meets its contract: the head and the two runs of words are a plan. Assumes nothing.
use mathlib.Core.Path.{ap, ◌∙◌}
use mathlib.Core.List.{List}
use Prim.Native.Nat.{ℕ, ◌+◌, ◌*◌}
use native.Mathlib.Omega.{arith}
use lib.ListN.{take}
use lib.Seq.{sets}
use Rattle.words.specs.Words.{encode}
use Rattle.plan.proofs.Writing.{plan-placed}
use Rattle.plan.proofs.write.put_plan.Goals as goal

pub returns : goal.returns
returns c =
    let a = c.args in
    c.put_words-2.ensures
    ∙ ap (λ (o : List ℕ). sets o (4 * (3 + a.n)) (encode (take a.n a.shares)))
    (c.put_words.ensures ∙ ap (λ (o : List ℕ). sets o 12 (encode (take a.n a.helpands))) c.put_head.ensures)
    ∙ plan-placed a.n a.kind a.limit a.helpands a.shares (omega arith) (omega arith) a.out.now c.requires.1
