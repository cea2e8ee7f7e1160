-- Weighing by example, beside the steps of document 01: the tree that a misstep would keep, and a chain of all 64 nodes. The theorems
-- compute. Assumes nothing.
use mathlib.Core.Path.{◌≡◌, refl}
use mathlib.Core.List.{[], ◌∷◌}
use mathlib.Core.Bool.{false}
use Prim.Native.Nat.{◌-◌}
use lib.ListN.{replicate}
use Rattle.fold.specs.Sum.{sum}
use Rattle.fold.specs.All.{all}
use Rattle.fold.specs.Collect.{collect}
use Rattle.arrays.specs.Arrays.{padded, at, tabulate}
use Rattle.tree.specs.Least.{least_within, least, holds}

-- "Taking L as every helper's spare: it keeps H's tree at 27, 39, 34, where the least of node 1 is 37."
pub misstep : (tabulate 3 (least 3 (at (0 ∷ 0 ∷ 1 ∷ [])) (at (27 ∷ 39 ∷ 34 ∷ [])) 36) ≡ padded (27 ∷ 37 ∷ 34 ∷ []))
    × (holds 3 (at (0 ∷ 0 ∷ 1 ∷ [])) (at (27 ∷ 39 ∷ 34 ∷ [])) 36 ≡ false)
unfolding tabulate collect all least_within sum
misstep = (refl, refl)

-- a chain of all 64 nodes with 10 each, 20 at the root and none at the far end: the spare of 10 goes all the way up
pub chain : tabulate 64 (least 64 (λ k. k - 1) (at (20 ∷ replicate 62 10)) 10) ≡ padded (10 ∷ [])
unfolding tabulate collect least_within sum
chain = refl
