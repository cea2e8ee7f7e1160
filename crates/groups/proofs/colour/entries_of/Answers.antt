-- `groups::colour::entries_of` meets its contract: a node's own family has the colour of its distance, and its helpand's the other.
-- Assumes nothing.
use Rattle.groups.proofs.Entries.{entries-even, entries-odd}
use Rattle.groups.proofs.colour.entries_of.Goals as goal

pub returns-in-Even : goal.returns-in-Even
returns-in-Even c = rw c.helped_group-as_helper.ensures (entries-even c.requires.0 c.args.k c.requires.1 c.in-Even.ensures)

pub returns-in-Odd : goal.returns-in-Odd
returns-in-Odd c = rw c.helped_group-as_helper.ensures (entries-odd c.requires.0 c.args.k c.requires.1 c.in-Odd.ensures)
