-- `tally::lay::lay_out` meets its contract: the three parts fill the cells. Assumes nothing.
use native.Mathlib.Omega.{arith}
use Rattle.tally.proofs.Laid.{put_all}
use Rattle.tally.proofs.lay.lay_out.Goals as goal

pub returns : goal.returns
returns c =
    let p = c.requires in
    rw (c.put-3.ensures, c.put-2.ensures, c.put.ensures) (put_all record { totals_long = p.0; leasts_long = p.1 } _ _ (omega arith))
