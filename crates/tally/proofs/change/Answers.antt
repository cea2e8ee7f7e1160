-- `tally::change` meets its contract: the first check that refuses decides, and otherwise the cells and the total change. Assumes nothing.
use Rattle.tally.proofs.Calling.{changeable, total_countable, ends_refused, ends_changed}
use Rattle.tally.proofs.change.Goals as goal

pub returns-in-Err : goal.returns-in-Err
returns-in-Err c = rw c.answer.ensures (ends_refused _ _ _ _ _ _ c.in-Err.r c.in-Err.ensures)

pub change_cells-requires : goal.change_cells-requires
change_cells-requires c = changeable _ _ _ _ _ _ c.in-Ok.ensures

pub holds-requires : goal.holds-requires
holds-requires c = (changeable _ _ _ _ _ _ c.in-Ok.ensures).few

pub count_in-requires : goal.count_in-requires
count_in-requires c = total_countable _ _ _ _ _ _ c.in-Ok.ensures

pub returns-in-Ok : goal.returns-in-Ok
returns-in-Ok c =
    rw (c.answer-in-Ok.ensures, c.holds.ensures, c.count_in.ensures)
    (ends_changed _ _ _ _ _ _ c.in-Ok.ensures c.change_cells.ensures)
