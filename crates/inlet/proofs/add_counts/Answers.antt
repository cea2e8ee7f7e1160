use Prim.Native.Nat.{◌+◌, ◌≤◌, ◌<◌}
use native.Mathlib.Omega.{arith}
use Rattle.limit.specs.Limit.{max_total, table_size}
use Rattle.arrays.specs.Arrays.{at}
use Rattle.inlet.proofs.Adding.{begin, end, index_below, fits, again}
use Rattle.inlet.proofs.add_counts.Goals.{After-word_number}
use Rattle.inlet.proofs.add_counts.Goals as goal

pub loop-i-init : goal.loop-i-init
loop-i-init c =
    let p = c.requires in
    (p.0, p.1, begin c.args.table.now c.args.s.now p.0 c.args.e p.1)

-- the two words that are read are an index of the table, and a count for which there is room
module _ (c : After-word_number) where
  below : c.word_number-c.result < table_size
  below =
      let v = c.loop-i.invariant in
      index_below c.args.table.now c.args.s.now v.0 c.args.e v.1 c.loop-i.table c.loop-i.i v.2 c.loop-i-test.true
      _ _ c.word_number-c.ensures c.word_number.ensures

  within : at c.loop-i.table c.word_number-c.result + c.word_number.result ≤ max_total
  within =
      let v = c.loop-i.invariant in
      fits c.args.table.now c.args.s.now v.0 c.args.e v.1 c.loop-i.table c.loop-i.i v.2 c.loop-i-test.true
      _ _ c.word_number-c.ensures c.word_number.ensures

pub bounds-table-c : goal.bounds-table-c
bounds-table-c c = below (goal.at.bounds-table-c c).After-word_number

pub bounds-table-c-in-loop-i : goal.bounds-table-c-in-loop-i
bounds-table-c-in-loop-i c = below (goal.at.bounds-table-c-in-loop-i c).After-word_number

pub overflow_add-table : goal.overflow_add-table
overflow_add-table c = omega (arith, within (goal.at.overflow_add-table c).After-word_number)

pub loop-i-preserved : goal.loop-i-preserved
loop-i-preserved c =
    let v = c.loop-i.invariant in (
      v.0,
      v.1,
      again c.args.table.now c.args.s.now v.0 c.args.e v.1 c.loop-i.table c.loop-i.i v.2 c.loop-i-test.true
          _ _ c.word_number-c.ensures c.word_number.ensures,
    )

pub returns : goal.returns
returns c =
    let v = c.loop-i.invariant in
    end c.args.table.now c.args.s.now v.0 c.args.e v.1 c.loop-i.table c.loop-i.i v.2 c.loop-i-test.false
