-- `text::put::Writer::right` meets its contract: the columns stand behind what was written. Assumes nothing.
use mathlib.Core.Path.{refl}
use Rattle.text.proofs.Writing.{put_wrote}
use Rattle.text.proofs.put.Writer.right.Goals as goal

pub put_right-self-requires : goal.put_right-self-requires
put_right-self-requires c = (c.requires.short, c.requires.room)

pub returns : goal.returns
returns c = put_wrote refl c.put_right-self.ensures
