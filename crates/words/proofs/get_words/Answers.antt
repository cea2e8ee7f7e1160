use mathlib.Core.Path.{◌≡◌, sym, ◌∙◌}
use Prim.Native.Nat.{◌+◌, ◌<◌}
use native.Mathlib.Numerals.{add-one}
use native.Mathlib.Omega.{arith}
use lib.ListN.{length}
use lib.Seq.{take_all, take-suc-set}
use Rattle.words.specs.Words.{words}
use Rattle.words.proofs.Words.{length-words, part-suc}
use Rattle.words.proofs.get_words.Goals as goal

pub loop-i-preserved : goal.loop-i-preserved
loop-i-preserved c =
    let l = c.loop-i in
    let ws = words c.args.s.now in
    let h : l.i < length l.out = omega arith in
    let b : c.args.first + l.i < length ws = simp length-words (omega arith) in
    rw (part-suc ws c.args.first l.i b, add-one, take-suc-set, l.invariant, c.word_number.ensures)

pub returns : goal.returns
returns c =
    let e : c.loop-i.i ≡ length c.args.out.now = omega arith in
    sym (take_all (length c.args.out.now) c.loop-i.out (omega arith)) ∙ rw e at c.loop-i.invariant
