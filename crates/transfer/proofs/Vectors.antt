-- What steps A to K do not reach, by computation: a send is tested against the old table alone, and what arrives in the same step
-- cannot be sent. Assumes nothing.
use mathlib.Core.Path.{◌≡◌, refl}
use mathlib.Core.Bool.{false}
use mathlib.Core.List.{[], ◌∷◌}
use lib.ListN.{replicate}
use Rattle.transfer.specs.Apply.{moved, within_from, sends_within}

-- 1 particle of subdomain 0 goes from node 0 to node 1, which has none, and 1 from node 1 to node 2
pub arrived : sends_within (1 ∷ replicate 64 0) (1 ∷ 66 ∷ []) (1 ∷ 1 ∷ []) ≡ false
unfolding moved within_from
arrived = refl
