-- `run::step` meets its contract: a refusal is written as its number, and otherwise both buffers begin with the records of the step.
-- Assumes nothing.
use mathlib.Core.Path.{refl, sym, ap, ◌∙◌}
use mathlib.Core.List.{List}
use Prim.Native.Nat.{ℕ, ◌≤◌}
use lib.ListN.{length, replicate, length-replicate}
use lib.Seq.{length-take-le}
use Rattle.std.specs.Prelude.{Err, Ok}
use Rattle.words.specs.Buffer.{placed}
use Rattle.planner.specs.Step.{answer_of}
use Rattle.planner.proofs.Ways.{number_more}
use Rattle.text.specs.Text.{refused_text}
use Rattle.run.specs.Run.{plan_size, moves_size}
use Rattle.run.proofs.Planned.{Answered, number_text, plan_in_front, moves_in_front, fronts_printable, fronts_text}
use Rattle.run.proofs.step.Goals.{In-Err, In-Ok}
use Rattle.run.proofs.step.Goals as goal

-- the two buffers began as zeros
refused : (c : In-Err) → Answered c.args.sheet.now c.args.old.now (answer_of (Err c.in-Err.r)) (replicate plan_size 0) (replicate moves_size 0)
    c.plan_step.new.plan c.plan_step.new.moves
refused c =
    record {
      plan_long = length-replicate {A = ℕ} plan_size 0;
      moves_long = length-replicate {A = ℕ} moves_size 0;
      answer = c.in-Err.ensures.answer;
      plan_after_lem = c.plan_step.ensures.plan;
      moves_after_lem = c.plan_step.ensures.moves;
    }

planned : (c : In-Ok) → Answered c.args.sheet.now c.args.old.now (answer_of (Ok c.in-Ok.p)) (replicate plan_size 0) (replicate moves_size 0)
    c.plan_step.new.plan c.plan_step.new.moves
planned c =
    record {
      plan_long = length-replicate {A = ℕ} plan_size 0;
      moves_long = length-replicate {A = ℕ} moves_size 0;
      answer = c.in-Ok.ensures.answer;
      plan_after_lem = c.plan_step.ensures.plan;
      moves_after_lem = c.plan_step.ensures.moves;
    }

plan-within : (c : In-Ok) → c.in-Ok.p.plan ≤ length c.plan_step.new.plan
plan-within c = (plan_in_front (planned c) refl).within

moves-within : (c : In-Ok) → c.in-Ok.p.moves ≤ length c.plan_step.new.moves
moves-within c = (moves_in_front (planned c) refl).within

pub slice_bounds-plan-end : goal.slice_bounds-plan-end
slice_bounds-plan-end c = plan-within (goal.at.slice_bounds-plan-end c).In-Ok

pub slice_bounds-moves-end : goal.slice_bounds-moves-end
slice_bounds-moves-end c = moves-within (goal.at.slice_bounds-moves-end c).In-Ok

pub slice_bounds-write_records-end : goal.slice_bounds-write_records-end
slice_bounds-write_records-end c = sym (length-take-le _ _ (plan-within (goal.at.slice_bounds-write_records-end c).In-Ok))

pub slice_bounds-write_records-end-in-Ok : goal.slice_bounds-write_records-end-in-Ok
slice_bounds-write_records-end-in-Ok c =
    sym (length-take-le _ _ (moves-within (goal.at.slice_bounds-write_records-end-in-Ok c).In-Ok))

pub write_records-requires : goal.write_records-requires
write_records-requires c = (fronts_printable (planned (goal.at.write_records-requires c).In-Ok) refl, c.requires)

pub returns-in-Err : goal.returns-in-Err
returns-in-Err c =
    let same = ap refused_text c.number.ensures ∙ number_text (refused (goal.at.returns-in-Err c).In-Err) (number_more c.in-Err.r) in
    let w = c.write_refused.ensures in
    record { size = w.size ∙ ap length same; bytes = w.bytes ∙ ap (λ (x : List ℕ). placed x c.args.out.now) same }

pub returns-in-Ok : goal.returns-in-Ok
returns-in-Ok c =
    let same = fronts_text (planned (goal.at.returns-in-Ok c).In-Ok) refl in
    let w = c.write_records.ensures in
    record { size = w.size ∙ ap length same; bytes = w.bytes ∙ ap (λ (x : List ℕ). placed x c.args.out.now) same }
