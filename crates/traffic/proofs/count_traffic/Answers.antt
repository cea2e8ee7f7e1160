use mathlib.Core.Path.{◌≡◌, refl}
use mathlib.Core.List.{List}
use Prim.Native.Nat.{ℕ, ◌+◌, ◌≤◌, ◌<◌}
use native.Mathlib.Omega.{arith}
use lib.ListN.{length, set, replicate, length-set}
use Rattle.fold.specs.Sum.{total}
use Rattle.limit.specs.Limit.{max_total}
use Rattle.arrays.specs.Arrays.{at}
use Rattle.arrays.proofs.Padded.{zeros-at}
use Rattle.moves.specs.Moves.{routes_of, counts_of}
use Rattle.transfer.specs.Apply.{moved}
use Rattle.transfer.proofs.Applied.{Entry, entry_read, moved-from-none, moved-from_more, moved-from-here, plus-at}
use Rattle.transfer.proofs.Counts.{moved-most}
use Rattle.traffic.proofs.count_traffic.Goals.{After-word_number-count}
use Rattle.traffic.proofs.count_traffic.Invariants.{Column}
use Rattle.traffic.proofs.count_traffic.Goals as goal

module _ {end : ℕ → ℕ} {moves : List ℕ} {e : ℕ} {column : List ℕ} {i : ℕ} (s : Column end moves e column i) where
  -- a turn: the move of the route and the count that were read
  module _ {route count : ℕ} (entry : Entry moves e i route count) {k : ℕ} (is : k ≡ end route) where
    fits : total (counts_of moves e) ≤ max_total → at column k + count ≤ max_total
    fits small =
        rw is
        (omega (
          arith,
          s.added (end route),
          moved-from-here end moves e i route count entry,
          moved-most end (routes_of moves e) (counts_of moves e) (end route),
        ))

    after : k < 64 → Column end moves e (set column k (at column k + count)) (i + 1)
    after below =
        let b : end route < length column = omega (arith, s.size) in
        rw is
        (record {
          size = simp length-set s.size;
          added = λ c. omega (arith, s.added c, moved-from_more end moves e i route count entry c, plus-at column (end route) count b c);
        })

  -- no move is left
  all : e ≤ i → (k : ℕ) → at column k ≡ moved end (routes_of moves e) (counts_of moves e) k
  all h k = omega (arith, s.added k, moved-from-none end moves e i h k)

-- at first nothing is counted
none : (end : ℕ → ℕ) (moves : List ℕ) (e : ℕ) → Column end moves e (replicate 64 0) 0
none end moves e = record { size = refl; added = λ k. omega (arith, zeros-at 64 k) }

read : (c : After-word_number-count) → Entry c.args.moves.now c.args.e c.loop-i.i c.word_number-r.result c.word_number-count.result
read c = entry_read _ _ _ c.requires.entries c.loop-i-test.true _ _ c.word_number-r.ensures c.word_number-count.ensures

pub loop-i-init : goal.loop-i-init
loop-i-init c = (none _ _ _, none _ _ _)

pub overflow_add-sent : goal.overflow_add-sent
overflow_add-sent c =
    let entry = read (goal.at.overflow_add-sent c).After-word_number-count in
    omega (arith, fits c.loop-i.invariant.0 entry c.sender.ensures c.requires.small)

pub overflow_add-received : goal.overflow_add-received
overflow_add-received c =
    let entry = read (goal.at.overflow_add-received c).After-word_number-count in
    omega (arith, fits c.loop-i.invariant.1 entry c.receiver.ensures c.requires.small)

pub loop-i-preserved : goal.loop-i-preserved
loop-i-preserved c =
    let entry = read (goal.at.loop-i-preserved c).After-word_number-count in (
      after c.loop-i.invariant.0 entry c.sender.ensures (omega arith),
      after c.loop-i.invariant.1 entry c.receiver.ensures (omega arith),
    )

pub returns : goal.returns
returns c = record {
  sent = λ k h. all c.loop-i.invariant.0 c.loop-i-test.false k;
  received = λ k h. all c.loop-i.invariant.1 c.loop-i-test.false k;
}
