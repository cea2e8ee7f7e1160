-- Document 01, 'The bench program': sheet D prints the six lines that it shows. Both sides compute to the same bytes. Assumes nothing.
use mathlib.Core.Path.{◌≡◌, refl}
use mathlib.Core.List.{◌++◌}
use Rattle.fold.specs.Sum.{sum}
use Rattle.fold.specs.All.{all, every}
use Rattle.fold.specs.Best.{best}
use Rattle.fold.specs.Collect.{collect}
use Rattle.fold.specs.Rising.{rising}
use Rattle.words.specs.Words.{words, encode}
use Rattle.limit.specs.Limit.{limit_of}
use Rattle.sheet.specs.Sheet.{running_sum, read_header, read_sheet}
use Rattle.sheet.specs.Table.{count_at, counts_from, table_of}
use Rattle.plan.specs.Tree.{reaches}
use Rattle.plan.specs.Plan.{arrays_answer, head_answer, read_plan}
use Rattle.plan.specs.Write.{plan_bytes}
use Rattle.moves.specs.Moves.{read_moves}
use Rattle.moves.specs.Write.{moves_bytes}
use Rattle.arrays.specs.Arrays.{tabulate}
use Rattle.tree.specs.Least.{least_within}
use Rattle.rebuild.specs.Target.{target_of}
use Rattle.rebuild.specs.Rebuild.{turn_of, start_of, run_of, finish_of, rebuilt_of}
use Rattle.transfer.specs.Due.{due_with}
use Rattle.transfer.specs.Matching.{matched}
use Rattle.decide.specs.Decide.{decided}
use Rattle.planner.specs.Step.{read_old, decision_in, plan_in, moves_in, written_answer, step_answer}
use Rattle.planner.specs.Worked.{step_D}
use Rattle.text.specs.Text.{ascii, digits, field, head_line, node_line, move_line, step_text}
use Rattle.text.specs.Split.{split_at}
use Rattle.run.specs.Run.{records_text, text_in, run_text}

-- THEOREM. "Sheet D below prints all of this".
pub step-d_printed : run_text (encode step_D.sheet)
    ≡ ascii "kind 2 limit 36\nnode 0 helps 0 share 0 own 34\nnode 1 helps 0 share 27 own 6\nnode 2 helps 0 share 29 own 4\n"
    ++ ascii "move 0 from 0 to 1 count 27\nmove 0 from 0 to 2 count 29\n"
unfolding words encode rising running_sum limit_of read_header read_sheet split_at read_old read_plan head_answer arrays_answer read_moves all every
    sum reaches table_of counts_from count_at tabulate collect decided least_within rebuilt_of start_of run_of turn_of finish_of target_of best
    decision_in plan_in plan_bytes moves_in moves_bytes due_with matched written_answer step_answer digits field head_line
    node_line move_line step_text records_text text_in run_text
step-d_printed = refl
