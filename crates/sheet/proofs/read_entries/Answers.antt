-- `sheet::read_entries` meets its contract: each way out gives the answer of the first check that refuses. Assumes nothing.
use mathlib.Core.Path.{◌≡◌, sym, ◌∙◌}
use native.Mathlib.Omega.{arith}
use Rattle.std.specs.Prelude.{Some}
use Rattle.sheet.specs.Sheet.{counts_of}
use Rattle.sheet.proofs.Laws.{summed}
use Rattle.sheet.proofs.read_entries.Goals as goal

-- the sum that was found is within the bound
pub limit-requires : goal.limit-requires
limit-requires c =
    let found : c.sum_counts.result ≡ Some c.in_ok-p.p = grind arith in
    omega (arith, (summed 0 (counts_of c.args.s.now c.args.h.e) c.in_ok-p.p (omega arith) (sym c.sum_counts.ensures ∙ found)).within)
