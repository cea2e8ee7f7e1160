-- What the inner functions of this crate ask of each other. No promise to a caller rests on these definitions.
use Rattle.std.specs.Prelude.{◌≡◌, List, ℕ}
use Rattle.arrays.specs.Arrays.{at}
use Rattle.sheet.specs.Sheet.{read_sheet}
use Rattle.sheet.specs.Totals.{totals_in}
use Rattle.plan.specs.Plan.{read_plan, helpands_of, shares_of}
use Rattle.moves.specs.Moves.{read_moves}
use Rattle.transfer.specs.Inner.{Allotted}

-- the three records are accepted, the plan is for as many nodes as the sheet, and no owner's helpers are given more than there is
pub record Printable (s p m : List ℕ) : Type 0 where
  pub sheet : (read_sheet s).refusal ≡ 0
  pub plan : (read_plan p).refusal ≡ 0
  pub moves : (read_moves m).refusal ≡ 0
  pub nodes : (read_plan p).n ≡ (read_sheet s).n
  pub allotted : Allotted (read_plan p).n (at (helpands_of p (read_plan p).n)) (at (totals_in s)) (at (shares_of p (read_plan p).n))
