-- `text::write_step` meets its contract: the head, the nodes' lines and the moves' lines stand one behind the other, from the front.
-- Assumes nothing.
use mathlib.Core.Path.{ap}
use borrow.Author.Rules.{rules}
use native.Mathlib.Omega.{arith}
use lib.ListN.{length}
use Rattle.text.specs.Text.{step_text}
use Rattle.text.proofs.Lengths.{head-le, nodes-le, step-le}
use Rattle.text.proofs.Writing.{wrote_then, wrote_front}
use Rattle.text.proofs.write_step.Goals as goal

pub put_nodes-requires-clause-room : goal.put_nodes-requires-clause-room
put_nodes-requires-clause-room c = omega (arith, ap length c.new-w.ensures.bytes, c.requires.room, head-le c.args.kind c.args.limit)

pub put_moves-requires-clause-room : goal.put_moves-requires-clause-room
put_moves-requires-clause-room c =
    let a = c.args in
    omega (arith, ap length c.new-w.ensures.bytes, c.requires.room, head-le a.kind a.limit, nodes-le a.nodes a.helpands a.shares a.own c.requires.few)

pub returns : goal.returns
unfolding step_text
returns c =
    let a = c.args in
    let new = c.new-w.ensures in
    let fits = step-le a.kind a.limit a.nodes a.helpands a.shares a.own (length a.routes.now) a.routes.now a.counts.now c.requires.few in
    let wrote = wrote_then (wrote_then c.put_head.ensures c.put_nodes.ensures) c.put_moves.ensures in
    let whole = wrote_front new.bytes new.front wrote (omega (arith, c.requires.room, fits)) in
    record { size = whole.0; bytes = search (rules, whole.1) }
