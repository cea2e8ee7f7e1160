use mathlib.Core.Path.{◌≡◌, refl, sym, ◌∙◌}
use mathlib.Core.List.{List}
use Prim.Native.Nat.{ℕ, ◌+◌, ◌≤◌, ◌<◌}
use native.Mathlib.Omega.{arith}
use lib.ListN.{length, set, length-set}
use Rattle.limit.specs.Limit.{max_total}
use Rattle.arrays.specs.Arrays.{at}
use Rattle.moves.specs.Moves.{routes_of, counts_of}
use Rattle.transfer.specs.Apply.{into_cell, receives}
use Rattle.transfer.specs.Inner.{Room}
use Rattle.transfer.proofs.Applied.{into-below, Entry, entry_read, moved-from-none, moved-from_more, moved-from-here, each-is, plus-at}
use Rattle.transfer.proofs.apply.add_receipts.Goals.{After-word_number-received}
use Rattle.transfer.proofs.apply.add_receipts.Invariants.{Adding}
use Rattle.transfer.proofs.apply.add_receipts.Goals as goal

-- ---- a turn: the move of the route and the count that were read
module _ {old moves : List ℕ} {e : ℕ} {table : List ℕ} {i : ℕ} (s : Adding old moves e table i) (h : i < e) {route count : ℕ}
    (entry : Entry moves e i route count) where
  abbrev cell : ℕ
  cell = into_cell route

  -- what arrives fits
  fits : Room old moves e → (into : ℕ) → into ≡ cell → at table into + count ≤ max_total
  fits room into is =
      rw is
      (omega (arith, room cell (into-below route entry.below), s.added cell, moved-from-here into_cell moves e i route count entry))

  -- what holds at the loop's head holds again
  after : Adding old moves e (set table cell (at table cell + count)) (i + 1)
  after =
      let b : cell < length table = omega (arith, s.size, into-below route entry.below) in
      record {
        size = simp length-set s.size;
        added = λ c. omega (arith, s.added c, moved-from_more into_cell moves e i route count entry c, plus-at table cell count b c);
      }

read : (c : After-word_number-received) → let a = c.args in
    Entry a.moves.now a.e c.loop-i.i c.word_number.result c.word_number-received.result
read c =
    entry_read _ _ _ c.requires.0.entries c.loop-i-test.true _ _ c.word_number.ensures c.word_number-received.ensures

pub loop-i-init : goal.loop-i-init
loop-i-init c = record { size = c.requires.0.size; added = λ j. refl }

pub loop-i-preserved : goal.loop-i-preserved
loop-i-preserved c =
    rw c.into_cell-into.ensures.cell
    (after c.loop-i.invariant c.loop-i-test.true (read (goal.at.loop-i-preserved c).After-word_number-received))

pub overflow_add-table : goal.overflow_add-table
overflow_add-table c =
    omega (
      arith,
      fits c.loop-i.invariant c.loop-i-test.true (read (goal.at.overflow_add-table c).After-word_number-received) c.requires.1 _
          c.into_cell-into.ensures.cell,
    )

pub returns : goal.returns
returns c =
    let l = c.loop-i in
    let m = c.args.moves.now in
    let e = c.args.e in
    each-is (λ j x. x + receives (routes_of m e) (counts_of m e) j) c.args.table.now l.table (l.invariant.size ∙ sym c.requires.0.size)
    (λ j b. omega (arith, l.invariant.added j, moved-from-none into_cell m e l.i c.loop-i-test.false j))
