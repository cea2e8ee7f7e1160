-- `text::lines::put_refused` meets its contract: its one field is the line. Assumes nothing.
use Rattle.text.specs.Text.{refused_text}
use Rattle.text.proofs.lines.put_refused.Goals as goal

pub returns : goal.returns
unfolding refused_text
returns c = c.field.ensures
