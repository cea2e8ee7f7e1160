-- The two readings of ties, which steps A to K do not reach, by computation: l is chosen by load and not by need, g by load and not by
-- what it has above its target. Assumes nothing.
use mathlib.Core.Path.{◌≡◌, refl}
use mathlib.Core.List.{List, [], ◌∷◌}
use lib.ListN.{length, take}
use Prim.Native.Nat.{ℕ}
use Rattle.fold.specs.Sum.{total}
use Rattle.fold.specs.Best.{best}
use Rattle.fold.specs.Collect.{collect}
use Rattle.arrays.specs.Arrays.{padded, tabulate}
use Rattle.rebuild.specs.Target.{target_of}
use Rattle.rebuild.specs.Rebuild.{turn_of, start_of, run_of, finish_of, rebuilt_of}

-- the new helpands and shares of these totals, with no old tree: each node is its own old helpand
abbrev rebuilt : List ℕ → List ℕ → List ℕ × List ℕ
rebuilt totals own =
    let r = rebuilt_of (length totals) (total totals) (padded totals) (padded own) in
    (take (length totals) r.helpands, take (length totals) r.shares)

-- nodes 0 and 1 both need 6, and node 1 has the smaller load: it is first, and helps node 2
pub least-load : rebuilt (5 ∷ 4 ∷ 16 ∷ 16 ∷ []) (0 ∷ 1 ∷ 2 ∷ 3 ∷ []) ≡ (3 ∷ 2 ∷ 2 ∷ 2 ∷ [], 6 ∷ 6 ∷ 0 ∷ 0 ∷ [])
unfolding rebuilt_of start_of run_of turn_of finish_of target_of tabulate collect best total
least-load = refl

-- nodes 0 and 1 both have 8, and node 1 is further above its target: node 2 helps node 0
pub most_load : rebuilt (8 ∷ 8 ∷ 0 ∷ []) (0 ∷ 1 ∷ 2 ∷ []) ≡ (1 ∷ 1 ∷ 0 ∷ [], 3 ∷ 0 ∷ 5 ∷ [])
unfolding rebuilt_of start_of run_of turn_of finish_of target_of tabulate collect best total
most_load = refl
