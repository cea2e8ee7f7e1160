-- `transfer::apply::apply_moves` meets its contract: what is left and what arrives make up the table that follows, which has the sum of
-- the table before, so that no cell comes to more. Assumes nothing.
use mathlib.Core.Path.{◌≡◌, sym, ◌∙◌}
use mathlib.Core.Bool.{true, true≢false}
use mathlib.Core.List.{List}
use Prim.Native.Nat.{ℕ, ◌*◌, ◌≤◌, ◌<◌}
use native.Mathlib.Omega.{arith}
use lib.ListN.{length, get_or, drop, length-take}
use Rattle.fold.specs.Sum.{sum}
use Rattle.fold.proofs.Sums.{sum_term}
use Rattle.limit.specs.Limit.{max_total, table_size}
use Rattle.words.specs.Words.{words}
use Rattle.words.proofs.Words.{part_at}
use Rattle.arrays.specs.Arrays.{at}
use Rattle.moves.specs.Moves.{routes_of, counts_of}
use Rattle.transfer.specs.Apply.{sends_within, less_sends, carried}
use Rattle.transfer.specs.Inner.{Ready, Room}
use Rattle.transfer.proofs.Applied.{length-less, carried_from}
use Rattle.transfer.proofs.Kept.{sum_kept}
use Rattle.transfer.proofs.apply.apply_moves.Goals.{Else-not-subtract_sends}
use Rattle.transfer.proofs.apply.apply_moves.Goals as goal

-- once no cell is short, what arrives fits what is left
module _ (table moves : List ℕ) (e : ℕ) (ready : Ready table moves e) where
  abbrev routes : List ℕ
  routes = routes_of moves e

  abbrev counts : List ℕ
  counts = counts_of moves e

  abbrev left : List ℕ
  left = less_sends table routes counts

  below : (i : ℕ) → i < length routes → get_or routes i 0 < 64 * table_size
  below i l =
      let h : i < e = omega (arith, length-take e (drop 2 (words moves))) in
      rw (part_at (words moves) 2 e i h) (ready.entries.below i h)

  left-fits : sum table_size (at table) ≤ max_total → sends_within table routes counts ≡ true → Ready left moves e × Room left moves e
  left-fits small within = (
    record { size = length-less routes counts table ∙ ready.size; entries = ready.entries },
    λ c h. omega (
      arith,
      sum_term table_size (at (carried table routes counts)) c h,
      sum_kept table routes counts ready.size below within,
      carried_from routes counts table c (omega (arith, ready.size)),
    ),
  )

pub returns-then-not-subtract_sends : goal.returns-then-not-subtract_sends
returns-then-not-subtract_sends c =
    record { answer = sym (c.if-not-subtract_sends.true) ∙ c.subtract_sends.ensures.answer; next = λ z. absurd (true≢false (sym z)) }

all_had : (c : Else-not-subtract_sends) → c.subtract_sends.result ≡ true
all_had c = c.if-not-subtract_sends.false

within-here : (c : Else-not-subtract_sends) → let a = c.args in
    sends_within a.table.now (routes_of a.moves.now a.e) (counts_of a.moves.now a.e) ≡ true
within-here c = sym c.subtract_sends.ensures.answer ∙ (all_had c)

left_is : (c : Else-not-subtract_sends) → let a = c.args in
    c.subtract_sends.new.table ≡ less_sends a.table.now (routes_of a.moves.now a.e) (counts_of a.moves.now a.e)
left_is c = c.subtract_sends.ensures.left (all_had c)

pub add_receipts-requires : goal.add_receipts-requires
add_receipts-requires c =
    let a = c.args in
    rw (left_is (goal.at.add_receipts-requires c).Else-not-subtract_sends) (left-fits a.table.now a.moves.now a.e c.requires.0 c.requires.1 (within-here (goal.at.add_receipts-requires c).Else-not-subtract_sends))

pub returns : goal.returns
returns c =
    record { answer = sym (within-here (goal.at.returns c).Else-not-subtract_sends); next = λ z. c.add_receipts.ensures ∙ rw (left_is (goal.at.returns c).Else-not-subtract_sends) }

pub subtract_sends-requires : goal.subtract_sends-requires
subtract_sends-requires c = c.requires.0
