-- Document 01, 'Contracts and cases': "Steps A to K form a list, and a lone theorem evaluates the definitions on the whole list."
-- Both sides compute to the same list of answers, plans and moves. Assumes nothing.
use mathlib.Core.Path.{◌≡◌, refl}
use mathlib.Core.List.{map}
use Rattle.fold.specs.Sum.{sum}
use Rattle.fold.specs.All.{all}
use Rattle.fold.specs.Best.{best}
use Rattle.fold.specs.Collect.{collect}
use Rattle.fold.specs.Rising.{rising}
use Rattle.words.specs.Words.{words, encode}
use Rattle.limit.specs.Limit.{limit_of}
use Rattle.sheet.specs.Sheet.{running_sum, read_header, read_sheet}
use Rattle.sheet.specs.Table.{count_at, counts_from, table_of}
use Rattle.plan.specs.Tree.{reaches}
use Rattle.plan.specs.Plan.{arrays_answer, head_answer, read_plan}
use Rattle.plan.specs.Write.{plan_bytes}
use Rattle.moves.specs.Write.{moves_bytes}
use Rattle.arrays.specs.Arrays.{tabulate}
use Rattle.tree.specs.Least.{least_within}
use Rattle.tree.specs.Down.{down}
use Rattle.shares.specs.Fill.{chosen, fill}
use Rattle.shares.specs.Hold.{affords, reserve}
use Rattle.shares.specs.Shares.{in_family, space, beside, divided, amount}
use Rattle.rebuild.specs.Target.{target_of}
use Rattle.rebuild.specs.Rebuild.{turn_of, start_of, run_of, finish_of, rebuilt_of}
use Rattle.transfer.specs.Due.{due_with}
use Rattle.transfer.specs.Matching.{matched}
use Rattle.decide.specs.Decide.{decided}
use Rattle.planner.specs.Step.{read_old, decision_in, plan_in, moves_in, written_answer, step_answer}
use Rattle.planner.specs.Worked.{steps, expected, outcome}

-- THEOREM. On steps A to K the definitions of *plan a step* give the answers, the plans and the moves of the list.
pub steps_worked : map outcome steps ≡ map expected steps
unfolding steps read_sheet read_header words encode rising running_sum limit_of read_old read_plan head_answer arrays_answer all sum reaches
    table_of counts_from count_at tabulate collect decided least_within down amount affords reserve space in_family beside divided chosen fill
    rebuilt_of start_of run_of turn_of finish_of target_of best decision_in plan_in plan_bytes moves_in moves_bytes due_with matched written_answer
    step_answer
steps_worked = refl
