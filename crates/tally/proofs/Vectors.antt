-- Calls on the tree of step H, a chain of three nodes with the limit 36, worked out by hand. Assumes nothing.
use mathlib.Core.Path.{◌≡◌, refl}
use mathlib.Core.Bool.{true, false}
use mathlib.Core.List.{List, [], ◌∷◌}
use Prim.Native.Nat.{ℕ}
use Rattle.fold.specs.Sum.{sum}
use Rattle.arrays.specs.Arrays.{at, padded}
use Rattle.tally.specs.Call.{call_of, call_number}
use Rattle.tally.specs.Layout.{laid}
use Rattle.tally.specs.Renew.{renewed}

-- totals and leasts of the three nodes, with no counts behind them
abbrev cells : List ℕ → List ℕ → List ℕ
cells totals leasts = laid (padded totals) (padded leasts) []

-- a particle of subdomain 2 arrives: node 2 can spare one fewer, so that node 1 keeps one more; it could spare none before
pub one_arrives : renewed 3 (at (0 ∷ 0 ∷ 1 ∷ [])) 36 4 2 (cells (28 ∷ 72 ∷ 1 ∷ []) (28 ∷ 36 ∷ 0 ∷ []))
    ≡ cells (28 ∷ 72 ∷ 1 ∷ []) (28 ∷ 37 ∷ 1 ∷ [])
unfolding renewed sum
one_arrives = refl

-- ten of subdomain 1 leave: node 1 can spare ten, which node 0 need not keep
pub ten_leave : renewed 3 (at (0 ∷ 0 ∷ 1 ∷ [])) 36 4 1 (cells (28 ∷ 62 ∷ 0 ∷ []) (28 ∷ 36 ∷ 0 ∷ []))
    ≡ cells (28 ∷ 62 ∷ 0 ∷ []) (18 ∷ 26 ∷ 0 ∷ [])
unfolding renewed sum
ten_leave = refl

-- at and past each bound, where the cell has 5 particles and all have 999,999,990
pub bounds : (call_number 3 5 999999990 (call_of true 2 2 10) ≡ 0) × (call_number 3 5 999999990 (call_of true 2 2 11) ≡ 60)
    × (call_number 3 5 999999990 (call_of false 2 2 5) ≡ 0) × (call_number 3 5 999999990 (call_of false 2 2 6) ≡ 59)
    × (call_number 3 5 999999990 (call_of false 3 2 6) ≡ 58) × (call_number 3 5 999999990 (call_of true 2 3 11) ≡ 58)
    × (call_number 3 5 999999990 (call_of true 2 2 0) ≡ 58)
unfolding call_number
bounds = (refl, refl, refl, refl, refl, refl, refl)
