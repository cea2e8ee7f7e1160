-- `text::lines::put_head` meets its contract: its two fields are the line. Assumes nothing.
use native.Mathlib.Omega.{arith}
use Rattle.text.specs.Text.{head_line}
use Rattle.text.proofs.Lengths.{field-le}
use Rattle.text.proofs.Writing.{wrote_then}
use Rattle.text.proofs.lines.put_head.Goals as goal

pub field-requires-2 : goal.field-requires-2
field-requires-2 c = omega (arith, field-le)

pub returns : goal.returns
unfolding head_line
returns c = wrote_then c.field.ensures c.field-2.ensures
