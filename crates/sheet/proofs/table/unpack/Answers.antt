use mathlib.Core.Path.{sym, ◌∙◌}
use Prim.Native.Nat.{◌+◌, ◌*◌, ◌≤◌}
use native.Mathlib.Omega.{arith}
use lib.ListN.{length}
use Rattle.words.proofs.Words.{part_more, part_end}
use Rattle.sheet.proofs.Tables.{stored, zeros, table-stored, index_below}
use Rattle.sheet.proofs.table.unpack.Goals as goal

pub loop-i-init : goal.loop-i-init
unfolding zeros
loop-i-init c = table-stored c.args.s.now c.requires.0 c.args.e c.requires.1

-- a cell is an index of the table
pub bounds-table-c : goal.bounds-table-c
bounds-table-c c =
    omega (
      arith,
      c.word_number-c.ensures,
      index_below c.args.s.now c.requires.0 c.args.e c.requires.1 c.loop-i.i c.loop-i-test.true,
    )

-- what is left begins with the two words that were read
pub loop-i-preserved : goal.loop-i-preserved
unfolding stored
loop-i-preserved c =
    let a = c.args in
    let h = c.loop-i-test.true in
    let long : 4 * (3 + 2 * a.e) ≤ length a.s.now = c.requires.1.long in
    c.loop-i.invariant
    ∙ simp (
      part_more a.s.now 3 a.e c.loop-i.i h (omega arith),
      part_more a.s.now (3 + a.e) a.e c.loop-i.i h (omega arith),
      ← c.word_number-c.ensures,
      ← c.word_number.ensures,
    )

pub returns : goal.returns
unfolding stored
returns c = sym (c.loop-i.invariant ∙ simp (part_end c.args.s.now 3 c.args.e c.loop-i.i c.loop-i-test.false))
