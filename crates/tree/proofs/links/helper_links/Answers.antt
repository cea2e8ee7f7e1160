use Rattle.std.proofs.Common.{refl}
use Rattle.tree.proofs.Linking.{linking_none, onward_none}
use Rattle.tree.proofs.links.helper_links.Goals as goal

pub loop-k-init : goal.loop-k-init
loop-k-init c = (refl, linking_none c.requires.0, onward_none c.requires.0)
