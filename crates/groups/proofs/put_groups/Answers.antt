-- `groups::put_groups` meets its contract: N and the entries behind it are one record. Assumes nothing.
use mathlib.Core.Path.{◌∙◌}
use Rattle.arrays.specs.Arrays.{at}
use Rattle.groups.proofs.Placing.{groups-placed}
use Rattle.groups.proofs.put_groups.Goals as goal

pub returns : goal.returns
returns c =
    c.put_entries.ensures ∙ groups-placed c.args.n (at c.args.helpands) c.args.out.now _ c.requires.1 c.put_word.ensures
