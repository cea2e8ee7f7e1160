use mathlib.Core.Path.{◌≡◌, refl, sym, ◌∙◌}
use mathlib.Core.Bool.{true, false, true≢false}
use mathlib.Core.List.{List}
use Prim.Native.Nat.{ℕ, ◌+◌, ◌-◌, ◌≤◌, ◌<◌}
use native.Mathlib.Omega.{arith}
use lib.ListN.{length, set, length-set}
use Rattle.limit.specs.Limit.{table_size}
use Rattle.arrays.specs.Arrays.{at}
use Rattle.moves.specs.Moves.{routes_of, counts_of}
use Rattle.transfer.specs.Apply.{from_cell, sends, sends_within, less_sends}
use Rattle.transfer.proofs.Applied.{from-below, Entry, entry_read, moved-from-none, moved-from_more, moved-from-here, each-is, within_of, within-false, less-at}
use Rattle.transfer.proofs.apply.subtract_sends.Goals.{After-word_number-sent}
use Rattle.transfer.proofs.apply.subtract_sends.Invariants.{Subtracting}
use Rattle.transfer.proofs.apply.subtract_sends.Goals as goal

-- ---- a turn: the move of the route and the count that were read
module _ {old moves : List ℕ} {e : ℕ} {table : List ℕ} {i : ℕ} (s : Subtracting old moves e table i) (h : i < e) {route count : ℕ}
    (entry : Entry moves e i route count) where
  abbrev cell : ℕ
  cell = from_cell route

  -- the cell has less left than it sends, and so it had less than it sends in all
  fails : length old ≡ table_size → at table cell < count → sends_within old (routes_of moves e) (counts_of moves e) ≡ false
  fails same l =
      within-false old (routes_of moves e) (counts_of moves e) cell (omega (arith, from-below route entry.below))
      (omega (arith, s.left cell, moved-from-here from_cell moves e i route count entry))

  -- what holds at the loop's head holds again
  after : count ≤ at table cell → Subtracting old moves e (set table cell (at table cell - count)) (i + 1)
  after l =
      let b : cell < length table = omega (arith, s.size, from-below route entry.below) in
      record {
        size = simp length-set s.size;
        left = λ c. omega (arith, s.left c, moved-from_more from_cell moves e i route count entry c, less-at table cell count b c l);
      }

-- ---- no move is left
module _ {old moves : List ℕ} {e : ℕ} {table : List ℕ} {i : ℕ} (s : Subtracting old moves e table i) (h : e ≤ i)
    (same : length old ≡ table_size) where
  left-all : (c : ℕ) → at table c + sends (routes_of moves e) (counts_of moves e) c ≡ at old c
  left-all c = omega (arith, s.left c, moved-from-none from_cell moves e i h c)

  passes : sends_within old (routes_of moves e) (counts_of moves e) ≡ true
  passes = within_of old (routes_of moves e) (counts_of moves e) (λ c l. omega (arith, left-all c))

  left_is : table ≡ less_sends old (routes_of moves e) (counts_of moves e)
  left_is =
      each-is (λ c x. x - sends (routes_of moves e) (counts_of moves e) c) old table (s.size ∙ sym same) (λ c l. omega (arith, left-all c))

read : (c : After-word_number-sent) → let a = c.args in
    Entry a.moves.now a.e c.loop-i.i c.word_number.result c.word_number-sent.result
read c = entry_read _ _ _ c.requires.entries c.loop-i-test.true _ _ c.word_number.ensures c.word_number-sent.ensures

pub loop-i-init : goal.loop-i-init
loop-i-init c = record { size = c.requires.size; left = λ j. refl }

pub returns-then-table-from : goal.returns-then-table-from
returns-then-table-from c =
    let entry = read (goal.at.returns-then-table-from c).After-word_number-sent in
    let short = rw c.from_cell-from.ensures.cell at c.if-table-from.true in record {
      answer = sym (fails c.loop-i.invariant c.loop-i-test.true entry c.requires.size short);
      left = λ z. absurd (true≢false (sym z));
    }

pub loop-i-preserved : goal.loop-i-preserved
loop-i-preserved c =
    let entry = read (goal.at.loop-i-preserved c).After-word_number-sent in
    let enough = rw c.from_cell-from.ensures.cell at c.if-table-from.false in
    rw c.from_cell-from.ensures.cell (after c.loop-i.invariant c.loop-i-test.true entry enough)

pub returns : goal.returns
returns c =
    let v = c.loop-i.invariant in
    let end = c.loop-i-test.false in
    record { answer = sym (passes v end c.requires.size); left = λ z. left_is v end c.requires.size }
