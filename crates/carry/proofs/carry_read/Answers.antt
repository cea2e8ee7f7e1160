-- `carry::carry_read` meets its contract: each way out gives the answer of the first check that refuses, and the writer's own test
-- is 43. Assumes nothing.
use mathlib.Core.Path.{◌≡◌, sym, ◌∙◌}
use mathlib.Core.Bool.{true}
use native.Mathlib.Omega.{arith}
use Rattle.std.proofs.lemmas.Result.{err_from_is_err_and}
use Rattle.words.proofs.Buffer.{writing-bytes}
use Rattle.sheet.specs.Write.{sheet_bytes}
use Rattle.sheet.proofs.Accepted.{sheet_unpackable}
use Rattle.sheet.proofs.Filled.{length_most}
use Rattle.carry.specs.Checks.{within_in}
use Rattle.carry.specs.Carry.{next_table}
use Rattle.carry.proofs.Checks.{sheet_facts, within-is}
use Rattle.carry.proofs.Carried.{appliable, carried-is, ends_sends, ends_carried, ends_unwritten}
use Rattle.carry.proofs.carry_read.Goals.{After-apply_moves, Else-not-apply_moves}
use Rattle.carry.proofs.carry_read.Goals as goal

-- every cell gives what it sends exactly when the table is applied
within-is-here : (c : After-apply_moves) → c.apply_moves.result ≡ within_in c.args.sheet.now c.args.moves.now
within-is-here c = c.apply_moves.ensures.answer ∙ within-is c.requires c.unpack-table.ensures

-- past 42: the table that follows
module _ (c : Else-not-apply_moves) where
  within : within_in c.args.sheet.now c.args.moves.now ≡ true
  within =
      sym (c.apply_moves.ensures.answer ∙ within-is c.requires c.unpack-table.ensures) ∙ c.if-not-apply_moves.false

  table_is : c.apply_moves.new.table ≡ next_table c.args.sheet.now c.args.moves.now
  table_is = c.apply_moves.ensures.next c.if-not-apply_moves.false ∙ carried-is c.requires c.unpack-table.ensures

pub unpack-table-requires : goal.unpack-table-requires
unpack-table-requires c = (_, sheet_unpackable _ _ (sheet_facts c.requires))

pub apply_moves-requires : goal.apply_moves-requires
apply_moves-requires c = appliable c.requires c.unpack-table.ensures

pub returns-then-not-apply_moves : goal.returns-then-not-apply_moves
returns-then-not-apply_moves c =
    let here = (goal.at.returns-then-not-apply_moves c).After-apply_moves in
    let whole = ends_sends c.requires _ (sym (within-is-here here) ∙ c.if-not-apply_moves.true) in
    record { answer = whole.0; bytes = whole.1 }

pub write_sheet-requires : goal.write_sheet-requires
write_sheet-requires c = (sheet_facts c.requires).n_high

pub returns-in_err-size : goal.returns-in_err-size
returns-in_err-size c =
    let here = (goal.at.returns-in_err-size c).Else-not-apply_moves in
    let p = err_from_is_err_and c.from_residual.result c.from_residual.ensures.1 in
    let x = ends_unwritten c.requires c.args.next.now (within here) (table_is here) c.in_err-size.ensures.answer in
    rw (p.1, p.2) (record { answer = x.0; bytes = c.write_sheet.ensures.bytes ∙ x.1 })

-- the length that the writer gives fits
pub overflow_cast-result : goal.overflow_cast-result
overflow_cast-result c =
    let h = c.args.s in
    let table = c.apply_moves.new.table in
    let z = writing-bytes (sheet_bytes h.n h.t table) c.args.next.now c.in_ok-size.size c.in_ok-size.ensures.answer in
    omega (arith, z.0, length_most h.n h.t table (sheet_facts c.requires).n_high)

pub returns : goal.returns
returns c =
    let here = (goal.at.returns c).Else-not-apply_moves in
    let x = ends_carried c.requires c.args.next.now (within here) (table_is here) c.in_ok-size.size c.in_ok-size.ensures.answer in
    record { answer = x.0; bytes = c.write_sheet.ensures.bytes ∙ x.1 }
