-- `planner::plan_read` meets its contract: table, totals, decision and moves one after the other, and then both records. Assumes nothing.
use mathlib.Core.Path.{◌≡◌, refl}
use Rattle.sheet.proofs.Accepted.{sheet_unpackable}
use Rattle.planner.specs.Step.{answer_of, old_helpands}
use Rattle.planner.proofs.Facts.{facts, sum-within, old_tree}
use Rattle.planner.proofs.Records.{Here, before_deciding, here_allotted, here_ends}
use Rattle.planner.proofs.plan_read.Goals.{After-decide_read-d}
use Rattle.planner.proofs.plan_read.Goals as goal

pub unpack-table-requires : goal.unpack-table-requires
unpack-table-requires c = (_, sheet_unpackable _ _ (facts c.requires))

pub totals-totals-requires : goal.totals-totals-requires
totals-totals-requires c = ((facts c.requires).n_high, rw c.unpack-table.ensures (sum-within c.requires))

pub decide_read-d-requires : goal.decide_read-d-requires
decide_read-d-requires c =
    let w = before_deciding c.requires c.unpack-table.result c.totals-totals.result _ c.unpack-table.ensures c.totals-totals.ensures refl in
    let f = facts c.requires in
    (f.n_low, f.n_high, c.totals-totals.ensures, w.0, f.sum.within, old_tree c.requires)

worked : (c : After-decide_read-d)
    → Here c.requires c.unpack-table.result c.totals-totals.result (old_helpands c.args.old.now c.args.tree c.args.s.n) c.decide_read-d.result
worked c =
    record {
      table_is = c.unpack-table.ensures;
      totals_is = c.totals-totals.ensures;
      old_is = refl;
      decision_is = c.decide_read-d.ensures;
    }

pub list_moves-requires : goal.list_moves-requires
list_moves-requires c =
    let w = worked (goal.at.list_moves-requires c).After-decide_read-d in
    let none = c.new-found.ensures in
    ((facts c.requires).n_high, w.totals_is, here_allotted c.requires w, none.0, none.1)

pub write_records-requires : goal.write_records-requires
write_records-requires c = (facts c.requires).n_high

pub returns : goal.returns
returns c =
    let w = worked (goal.at.returns c).After-decide_read-d in
    let m = c.list_moves.ensures in
    let wrote = c.write_records.ensures in
    let ends = here_ends c.requires w _ _ m.routes m.counts (answer_of c.write_records.result) c.args.plan.now c.args.moves.now _ _
    (wrote.answer, (wrote.plan, wrote.moves)) in
    record { answer = ends.0; plan = ends.1.0; moves = ends.1.1 }
