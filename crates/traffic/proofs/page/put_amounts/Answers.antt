-- `traffic::page::put_amounts` meets its contract: its five parts stand one behind the other. Assumes nothing.
use native.Mathlib.Omega.{arith}
use Rattle.text.proofs.Lengths.{decimal-le}
use Rattle.text.proofs.Writing.{wrote_then}
use Rattle.traffic.specs.Inner.{amounts}
use Rattle.traffic.proofs.Lines.{length-column}
use Rattle.traffic.proofs.page.put_amounts.Goals as goal

pub right-requires : goal.right-requires
right-requires c = record { short = decimal-le c.args.sent; room = omega arith }

pub byte-requires-2 : goal.byte-requires-2
byte-requires-2 c = omega (arith, length-column)

pub right-requires-2 : goal.right-requires-2
right-requires-2 c = record { short = decimal-le c.args.received; room = omega (arith, length-column) }

pub byte-requires-3 : goal.byte-requires-3
byte-requires-3 c = omega (arith, length-column)

pub returns : goal.returns
unfolding amounts
returns c =
    wrote_then c.byte.ensures (wrote_then c.right.ensures (wrote_then c.byte-2.ensures (wrote_then c.right-2.ensures c.byte-3.ensures)))
