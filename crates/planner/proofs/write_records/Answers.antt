-- `planner::write_records` meets its contract: the sizes that it tests are the lengths of the two records. Assumes nothing.
use borrow.Author.Rules.{rules}
use mathlib.Core.Path.{◌≡◌, ◌∙◌}
use Prim.Native.Nat.{◌+◌, ◌*◌}
use native.Mathlib.Omega.{arith}
use lib.ListN.{length}
use Rattle.moves.proofs.Laws.{length-moves}
use Rattle.plan.specs.Kinds.{kind_number}
use Rattle.plan.proofs.Writing.{length-plan}
use Rattle.transfer.specs.List.{routes_in, counts_in}
use Rattle.planner.specs.Step.{plan_record, moves_record}
use Rattle.planner.proofs.Ways.{writes_plan_short, writes_moves_short, writes_both}
use Rattle.planner.proofs.write_records.Goals.{Start, After-len}
use Rattle.planner.proofs.write_records.Goals as goal

plan-size : (c : Start) → length (plan_record c.args.n c.args.limit c.args.d) ≡ 4 * (3 + 2 * c.args.n)
plan-size c =
    let few = c.requires in
    let d = c.args.d in
    let h : (length d.helpands ≡ 64) × (length d.shares ≡ 64) = search rules in
    length-plan c.args.n (kind_number d.kind) c.args.limit d.helpands d.shares (omega (arith, few)) (omega (arith, few))

moves-size : (c : After-len) →
    let m = c.args.found.now in
    length (moves_record c.args.n (routes_in m) (counts_in m)) ≡ 4 * (2 + 2 * c.len.result)
moves-size c =
    let m = c.args.found.now in
    let k = c.len.ensures in
    omega (arith, length-moves c.args.n (length (routes_in m)) (routes_in m) (counts_in m) (omega arith) (omega (arith, k.routes, k.counts)), k.routes)

pub returns-then-plan-plan_size : goal.returns-then-plan-plan_size
returns-then-plan-plan_size c =
    let p = (goal.at.returns-then-plan-plan_size c).Start in
    let w = writes_plan_short _ _ _ _ _ _ _ (plan-size p) c.if-plan-plan_size.true in
    record { answer = w.0; plan = w.1.0; moves = w.1.1 }

pub returns-then-moves-moves_size : goal.returns-then-moves-moves_size
returns-then-moves-moves_size c =
    let p = goal.at.returns-then-moves-moves_size c in
    let w = writes_moves_short _ _ _ _ _ _ _ (plan-size p.Start) c.if-plan-plan_size.false _ (moves-size p.After-len) c.if-moves-moves_size.true in
    record { answer = w.0; plan = w.1.0; moves = w.1.1 }

pub returns : goal.returns
returns c =
    let put = c.put_records.ensures in
    let p = goal.at.returns c in
    let w = writes_both _ _ _ _ _ _ _ (plan-size p.Start) c.if-plan-plan_size.false _ (moves-size p.After-len) (omega arith) in
    record { answer = w.0; plan = put.plan ∙ w.1.0; moves = put.moves ∙ w.1.1 }
