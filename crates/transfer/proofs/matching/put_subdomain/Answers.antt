use mathlib.Core.List.{List}
use mathlib.Core.Logic.{inl, inr}
use native.Mathlib.Nat.{le_refl}
use native.Mathlib.Omega.{arith}
use Prim.Native.Nat.{ℕ, ◌+◌, ◌-◌, ◌≤◌, ◌<◌}
use Rattle.std.specs.Prelude.{Option, length}
use Rattle.arrays.specs.Arrays.{at}
use Rattle.transfer.specs.declared.matching.Remaining.{Remaining}
use Rattle.transfer.specs.Inner.{NextAbove}
use Rattle.limit.specs.Limit.{table_size}
use Rattle.transfer.specs.List.{routes_in, counts_in}
use Rattle.transfer.specs.Matching.{move_of}
use Rattle.transfer.proofs.Entries.{Pending, begin, finish, room, sender-next, receiver-next}
use Rattle.transfer.proofs.Next.{NextFrom, next-from, next-inside, node_of, left_of}
use Rattle.transfer.proofs.Matched.{moves-few}
use Rattle.transfer.proofs.matching.put_subdomain.Goals.{After-min-count}
use Rattle.transfer.proofs.matching.put_subdomain.Invariants.{lacks, whole, above}
use Rattle.transfer.proofs.matching.put_subdomain.Goals as goal

-- what the one amount is above the other is the surplus, and the other way round the shortage
sender : {nodes from : ℕ} (holding due : List ℕ) (o : Option Remaining) → from ≤ nodes
    → NextAbove nodes (λ k. at holding k - at due k) from o → NextFrom nodes (above holding due) from (node_of nodes o) (left_of o)
sender holding due o l x = next-from (above holding due) (λ k. omega arith) o l x

receiver : {nodes from : ℕ} (holding due : List ℕ) (o : Option Remaining) → from ≤ nodes
    → NextAbove nodes (λ k. at due k - at holding k) from o → NextFrom nodes (lacks holding due) from (node_of nodes o) (left_of o)
receiver holding due o l x = next-from (lacks holding due) (λ k. omega arith) o l x

-- ---- a pair's turn

pending : (c : After-min-count) →
    let a = c.args in
    let l = c.loop-sender in
    let s = c.in-Some-Some.s in
    let r = c.in-Some-Some.r in
    Pending a.nodes (above a.holding.now a.due.now) (lacks a.holding.now a.due.now) a.n (routes_in a.moves.now) (counts_in a.moves.now)
    (whole a.nodes a.holding.now a.due.now) (routes_in l.moves) (counts_in l.moves) s.node s.count r.node r.count
pending c = rw (c.in-Some-Some.is-0, c.in-Some-Some.is-1) at c.loop-sender.invariant.pending

sender-lt : (c : After-min-count) → c.in-Some-Some.s.node < c.args.nodes
sender-lt c = rw c.in-Some-Some.is-0 at c.loop-sender.invariant.sender

receiver-lt : (c : After-min-count) → c.in-Some-Some.r.node < c.args.nodes
receiver-lt c = rw c.in-Some-Some.is-1 at c.loop-sender.invariant.receiver

has_room : (c : After-min-count) →
    length (routes_in c.loop-sender.moves) + length (move_of c.in-Some-Some.s.node c.in-Some-Some.r.node c.min-count.result) ≤ table_size
has_room c =
    let a = c.args in
    omega (
      arith,
      room (pending c) (sender-lt c) (receiver-lt c) c.min-count.ensures,
      moves-few a.nodes (at a.holding.now) (at a.due.now),
    )

pub push-requires : goal.push-requires
push-requires c =
    let t = (goal.at.push-requires c).After-min-count in
    (omega arith, omega (arith, sender-lt t), omega (arith, receiver-lt t), has_room t)

-- ---- what holds at the loop's head

pub loop-sender-init : goal.loop-sender-init
loop-sender-init c =
    let a = c.args in
    let s = c.next_above-sender in
    let r = c.next_above-receiver in record {
      sender = next-inside a.nodes _ _ s.result s.ensures;
      receiver = next-inside a.nodes _ _ r.result r.ensures;
      pending =
          begin (omega arith) (sender a.holding.now a.due.now s.result (omega arith) s.ensures)
          (receiver a.holding.now a.due.now r.result (omega arith) r.ensures);
    }

pub loop-sender-preserved-then-s-r : goal.loop-sender-preserved-then-s-r
loop-sender-preserved-then-s-r c =
    let t = (goal.at.loop-sender-preserved-then-s-r c).After-min-count in
    let a = c.args in
    let m = c.push.ensures in
    let s = c.next_above-sender-then-s-r in record {
      sender = next-inside a.nodes _ _ s.result s.ensures;
      receiver = receiver-lt t;
      pending =
          sender-next (pending t) (sender-lt t) (receiver-lt t) c.min-count.ensures m.routes m.counts c.if-s-r.true
          (sender a.holding.now a.due.now s.result (omega (arith, sender-lt t)) s.ensures);
    }

pub loop-sender-preserved : goal.loop-sender-preserved
loop-sender-preserved c =
    let t = (goal.at.loop-sender-preserved c).After-min-count in
    let a = c.args in
    let m = c.push.ensures in
    let r = c.next_above-receiver-else-s-r in record {
      sender = sender-lt t;
      receiver = next-inside a.nodes _ _ r.result r.ensures;
      pending =
          receiver-next (pending t) (sender-lt t) (receiver-lt t) c.min-count.ensures m.routes m.counts c.if-s-r.false
          (receiver a.holding.now a.due.now r.result (omega (arith, receiver-lt t)) r.ensures);
    }

-- ---- no sender is left, or no receiver

pub returns-in_default : goal.returns-in_default
returns-in_default c =
    let all-done = finish c.loop-sender.invariant.pending (inr (rw c.in_default.is-1 (le_refl _))) in
    record { routes = all-done.0; counts = all-done.1 }

pub returns-in_default-2 : goal.returns-in_default-2
returns-in_default-2 c =
    let all-done = finish c.loop-sender.invariant.pending (inl (rw c.in_default.is-0 (le_refl _))) in
    record { routes = all-done.0; counts = all-done.1 }
