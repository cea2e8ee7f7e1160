-- `text::put::Writer::field` meets its contract: its four parts stand one behind the other. Assumes nothing.
use native.Mathlib.Omega.{arith}
use Rattle.text.specs.Text.{field}
use Rattle.text.proofs.Lengths.{decimal-le}
use Rattle.text.proofs.Writing.{wrote_then}
use Rattle.text.proofs.put.Writer.field.Goals as goal

pub number-requires : goal.number-requires
number-requires c = omega (arith, decimal-le)

pub byte-requires-2 : goal.byte-requires-2
byte-requires-2 c = omega (arith, decimal-le)

pub returns : goal.returns
unfolding field
returns c = wrote_then c.text.ensures (wrote_then c.byte.ensures (wrote_then c.number.ensures c.byte-2.ensures))
