use mathlib.Core.Path.{sym, ◌∙◌}
use native.Mathlib.Omega.{arith}
use Rattle.fold.proofs.Lists.{rising_more, rising-low, rising-not, rising_none}
use Rattle.words.proofs.Words.{part_more, part_end}
use Rattle.words.proofs.lists.rising.Goals as goal

pub returns-then-from-low : goal.returns-then-from-low
returns-then-from-low g c ok t =
    let a = c.args in
    sym
    (c.loop-i.invariant ok t
    ∙ rw (part_more a.s.now a.first a.k c.loop-i.i c.loop-i-test.true (omega arith), ← c.word_number-w.ensures)
    (rising-low ok _ _ _ (omega arith)))

pub returns-then-not-test : goal.returns-then-not-test
returns-then-not-test g c ok t =
    let a = c.args in
    let fails = sym (t c.word_number-w.result _ (omega arith) c.test.ensures) ∙ c.if-not-test.true in
    sym
    (c.loop-i.invariant ok t
    ∙ rw (part_more a.s.now a.first a.k c.loop-i.i c.loop-i-test.true (omega arith), ← c.word_number-w.ensures)
    (rising-not ok _ _ _ fails))

pub loop-i-preserved : goal.loop-i-preserved
loop-i-preserved g c ok t =
    let a = c.args in
    let passes = sym (t c.word_number-w.result _ (omega arith) c.test.ensures) ∙ c.if-not-test.false in
    c.loop-i.invariant ok t
    ∙ rw (part_more a.s.now a.first a.k c.loop-i.i c.loop-i-test.true (omega arith), ← c.word_number-w.ensures, c.from-low.ensures)
    (rising_more ok _ _ _ (omega arith) passes)

pub returns : goal.returns
returns g c ok t =
    let a = c.args in
    sym
    (c.loop-i.invariant ok t
    ∙ rw (part_end a.s.now a.first a.k c.loop-i.i c.loop-i-test.false) (rising_none ok c.loop-i.low))
