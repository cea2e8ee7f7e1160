-- `KeptTree::affords` meets its contract: both sides of the test are the definition's, and no sum wraps. Assumes nothing.
use mathlib.Core.Path.{ap₂}
use Prim.Native.Nat.{◌+◌, ◌*◌}
use lib.Dec.{leb}
use Rattle.shares.specs.Hold.{affords}
use Rattle.shares.proofs.kept.KeptTree.affords.Goals as goal

pub returns : goal.returns
unfolding affords
returns c =
    let f = c.members-family.ensures in
    ap₂ leb (ap₂ ◌+◌ (ap₂ ◌+◌ c.from.ensures c.from-2.ensures) f.0) (ap₂ ◌*◌ c.from-3.ensures f.1)
