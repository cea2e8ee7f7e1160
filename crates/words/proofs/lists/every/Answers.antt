use mathlib.Core.Path.{◌≡◌, sym, ap, ◌∙◌}
use Prim.Native.Nat.{ℕ, ◌+◌}
use native.Mathlib.Omega.{arith}
use lib.ListN.{get_or}
use Rattle.fold.specs.All.{every}
use Rattle.fold.proofs.Tests.{every_more, every_fails}
use Rattle.words.specs.Words.{words}
use Rattle.words.proofs.Words.{part_more, part_end}
use Rattle.words.proofs.lists.every.Goals as goal

pub returns-then-not-passes : goal.returns-then-not-passes
returns-then-not-passes g c ok t =
    let a = c.args in
    let i = c.loop-i in
    let fails = sym (t c.word_number.result _ (omega arith) c.test-passes.ensures) ∙ c.if-not-passes.true in
    let read : get_or (words a.s.now) (a.first + i.i) 0 ≡ c.word_number.result =
    ap (λ (j : ℕ). get_or (words a.s.now) j 0) (omega arith) ∙ sym c.word_number.ensures in
    sym (i.invariant ok t ∙ rw (part_more a.s.now a.first a.k i.i c.loop-i-test.true (omega arith), read) (every_fails ok _ _ fails))

pub loop-i-preserved : goal.loop-i-preserved
loop-i-preserved g c ok t =
    let a = c.args in
    let i = c.loop-i in
    let passes = sym (t c.word_number.result _ (omega arith) c.test-passes.ensures) ∙ c.if-not-passes.false in
    let read : get_or (words a.s.now) (a.first + i.i) 0 ≡ c.word_number.result =
    ap (λ (j : ℕ). get_or (words a.s.now) j 0) (omega arith) ∙ sym c.word_number.ensures in
    i.invariant ok t ∙ rw (part_more a.s.now a.first a.k i.i c.loop-i-test.true (omega arith), read) (every_more ok _ _ passes)

pub returns : goal.returns
unfolding every
returns g c ok t =
    let a = c.args in
    sym (c.loop-i.invariant ok t ∙ rw (part_end a.s.now a.first a.k c.loop-i.i c.loop-i-test.false))
