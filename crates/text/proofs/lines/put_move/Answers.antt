-- `text::lines::put_move` meets its contract: its four fields are the line. Assumes nothing.
use native.Mathlib.Omega.{arith}
use Rattle.text.specs.Text.{move_line}
use Rattle.text.proofs.Lengths.{field-le}
use Rattle.text.proofs.Writing.{wrote_then}
use Rattle.text.proofs.lines.put_move.Goals as goal

pub field-requires-2 : goal.field-requires-2
field-requires-2 c = omega (arith, field-le)

pub field-requires-3 : goal.field-requires-3
field-requires-3 c = omega (arith, field-le)

pub field-requires-4 : goal.field-requires-4
field-requires-4 c = omega (arith, field-le)

pub returns : goal.returns
unfolding move_line
returns c = wrote_then (wrote_then (wrote_then c.field.ensures c.field-2.ensures) c.field-3.ensures) c.field-4.ensures
