use mathlib.Core.Path.{◌≡◌, ap, ◌∙◌}
use Prim.Native.Nat.{ℕ, ◌+◌}
use native.Mathlib.Omega.{arith}
use lib.ListN.{get_or, length-set}
use Rattle.arrays.proofs.Tabulate.{filled_more}
use Rattle.words.specs.Words.{words}
use Rattle.archive.specs.ZOrder.{position_of}
use Rattle.archive.specs.Archive.{count_in}
use Rattle.archive.proofs.Bits.{position-below}
use Rattle.archive.proofs.Ordered.{from_is}
use Rattle.archive.proofs.read.unpack.Goals.{After-from}
use Rattle.archive.proofs.read.unpack.Goals as goal

-- what is read from the array is the cell's position
is : (c : After-from) → c.from.result ≡ position_of c.loop-c.c
is c = c.from.ensures ∙ c.requires.1 c.loop-c.c (omega arith)

pub word_number-requires : goal.word_number-requires
word_number-requires c = omega (arith, is (goal.at.word_number-requires c).After-from, position-below c.loop-c.c, c.requires.0)

pub loop-c-preserved : goal.loop-c-preserved
loop-c-preserved c =
    let a = c.args.a.now in
    let v = c.loop-c.invariant in (
      simp length-set v.0,
      filled_more (λ k. count_in a (position_of k)) c.loop-c.table c.loop-c.c c.word_number.result (omega arith)
          (c.word_number.ensures ∙ ap (λ (q : ℕ). get_or (words a) (2 + q) 0) (is (goal.at.loop-c-preserved c).After-from)) v.1,
    )

pub returns : goal.returns
returns c = from_is c.args.a.now c.loop-c.table c.loop-c.invariant.0 (λ k h. c.loop-c.invariant.1 k (omega arith))
