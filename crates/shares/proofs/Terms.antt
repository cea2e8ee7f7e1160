-- The terms of 'Shares in a kept tree' for the arrays of a step: r is the share of n, and each helper's hold or least is its reserve. Of a
-- kept tree and a family the definitions have the same terms (shares/specs/Inner.antt). Assumes nothing.
use mathlib.Core.List.{List}
use Prim.Native.Nat.{ℕ, ◌-◌}
use Rattle.arrays.specs.Arrays.{at, tabulate}
use Rattle.sheet.specs.Table.{held}
use Rattle.shares.specs.Fill.{room, fill}
use Rattle.shares.specs.Shares.{in_family, space, beside, kept, rest, divided, amount}

abbrev pub spaces_in : ℕ → List ℕ → List ℕ → ℕ → ℕ → ℕ → ℕ
spaces_in limit helpands reserves r n = space (at helpands) limit (at reserves) r n

abbrev pub keeps_in : ℕ → List ℕ → List ℕ → List ℕ → ℕ → ℕ → ℕ → ℕ
keeps_in limit helpands reserves table r n = kept (spaces_in limit helpands reserves r n) (λ j. held table j n)

abbrev pub rooms_in : ℕ → List ℕ → List ℕ → List ℕ → ℕ → ℕ → ℕ → ℕ
rooms_in limit helpands reserves table r n = room (spaces_in limit helpands reserves r n) (keeps_in limit helpands reserves table r n)

abbrev pub rest_in : ℕ → ℕ → List ℕ → List ℕ → List ℕ → List ℕ → ℕ → ℕ → ℕ
rest_in nodes limit helpands reserves totals table r n = rest nodes (at totals n) (keeps_in limit helpands reserves table r n)

abbrev pub divided_in : ℕ → ℕ → List ℕ → List ℕ → List ℕ → List ℕ → ℕ → ℕ → ℕ → ℕ
divided_in nodes limit helpands reserves totals table r n =
    divided nodes (beside (at reserves) r n) (spaces_in limit helpands reserves r n) (at totals n) (λ j. held table j n)

abbrev pub amounts_in : ℕ → ℕ → List ℕ → List ℕ → List ℕ → List ℕ → ℕ → ℕ → ℕ → ℕ
amounts_in nodes limit helpands leasts totals table r n = amount nodes (at helpands) limit (at leasts) (at totals) (held table) r n

-- ---- a family whose helpers' amounts are noted in an array, and whose owner has this amount or this room

abbrev pub amounts_now : List ℕ → ℕ → ℕ → List ℕ → ℕ → ℕ
amounts_now helpands n own noted = in_family (at helpands) n own (at noted)

abbrev pub rooms_now : ℕ → List ℕ → List ℕ → ℕ → ℕ → List ℕ → ℕ → ℕ
rooms_now limit helpands reserves n own noted = in_family (at helpands) n own (λ k. limit - at reserves k - at noted k)

-- what each node has once a rest is filled in
abbrev pub filled_in : ℕ → ℕ → List ℕ → List ℕ → ℕ → ℕ → ℕ → ℕ → List ℕ → ℕ → ℕ
filled_in nodes limit helpands reserves r own rest n noted =
    at
    (fill nodes (beside (at reserves) r n) (spaces_in limit helpands reserves r n) (tabulate nodes (amounts_now helpands n own noted)) rest)
