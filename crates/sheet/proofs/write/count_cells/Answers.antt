use mathlib.Core.Path.{◌≡◌, sym, ap, ◌∙◌}
use mathlib.Core.List.{[], ◌∷◌}
use Prim.Native.Nat.{◌+◌, ◌*◌}
use native.Mathlib.Omega.{arith}
use lib.ListN.{length, length-append}
use Rattle.fold.specs.Collect.{collect}
use Rattle.fold.proofs.Lists.{collect-none}
use Rattle.sheet.specs.Write.{filled}
use Rattle.sheet.proofs.Filled.{cells_skip, cells-one}
use Rattle.sheet.proofs.write.count_cells.Goals.{else-table-c-ne0, then-table-c-ne0}
use Rattle.sheet.proofs.write.count_cells.Goals as goal

pub loop-c-init : goal.loop-c-init
loop-c-init c = (omega arith, sym (ap length (collect-none (filled c.args.table.now))))

pub loop-c-preserved : goal.loop-c-preserved
loop-c-preserved c =
    let table = c.args.table.now in
    let k = c.loop-c.c in
    elim c.if-table-c-ne0.branch [
      | then-table-c-ne0 w ↦ let one : length (collect (k + 1) (filled table)) ≡ length (collect k (filled table)) + 1 =
          rw (cells-one table k w.if-table-c-ne0.true) (length-append (collect k (filled table)) (k ∷ [])) in
          (omega arith, omega arith)
      | else-table-c-ne0 w ↦ (omega arith, w.e-is ∙ c.loop-c.invariant.1 ∙ sym (ap length (cells_skip table k w.if-table-c-ne0.false)))
    ]

pub returns : goal.returns
returns c =
    let e : c.loop-c.c ≡ 64 * c.args.n = omega arith in
    rw e at c.loop-c.invariant.1
