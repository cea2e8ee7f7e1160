-- Lists of routes and counts that *read moves* accepts. Assumes nothing.
use mathlib.Core.Path.{◌≡◌}
use Prim.Native.Nat.{ℕ, ◌-◌, ◌*◌, ◌≤◌}
use mathlib.Core.List.{List}
use mathlib.Core.Bool.{true}
use lib.ListN.{length}
use Rattle.fold.specs.All.{every}
use Rattle.fold.specs.Rising.{rising}
use Rattle.moves.specs.Moves.{route_fine, count_fine}

-- routes and counts that pass *read moves*' checks 33, 35 and 36
pub record Acceptable (nodes : ℕ) (routes counts : List ℕ) : Type 0 where
  pub same : length routes ≡ length counts
  pub few : length routes ≤ nodes * (nodes - 1)
  pub routes_fine : rising (route_fine nodes) 0 routes ≡ true
  pub counts_fine_lem : every count_fine counts ≡ true
