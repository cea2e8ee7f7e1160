-- Groups worked out by hand, of five nodes and of a plan of kind 0. Assumes nothing.
use mathlib.Core.Path.{◌≡◌, refl}
use mathlib.Core.List.{List, [], ◌∷◌}
use Prim.Native.Nat.{ℕ}
use Rattle.fold.specs.All.{all}
use Rattle.fold.specs.Collect.{collect}
use Rattle.fold.specs.Sum.{sum}
use Rattle.words.specs.Words.{words, encode}
use Rattle.words.specs.Answer.{accepted, refused}
use Rattle.plan.specs.Tree.{reaches}
use Rattle.plan.specs.Plan.{arrays_answer, head_answer, read_plan}
use Rattle.groups.specs.Colour.{distance_within}
use Rattle.groups.specs.Groups.{groups_bytes, groups_of, groups_answer}

-- nodes 0 and 2 help 1, the root, and 3 and 4 help 0
abbrev plan : List ℕ
plan = encode (5 ∷ 1 ∷ 10 ∷ 1 ∷ 1 ∷ 1 ∷ 0 ∷ 0 ∷ 4 ∷ 0 ∷ 3 ∷ 2 ∷ 1 ∷ [])

-- the family of 1 is even, and that of 0 odd
abbrev five : List ℕ
five = encode (5 ∷ 1 ∷ 1 ∷ 1 ∷ 64 ∷ 64 ∷ 0 ∷ 64 ∷ 64 ∷ 0 ∷ 0 ∷ [])

pub groups-five : (groups_answer plan 44 ≡ accepted 44) × (groups_answer plan 43 ≡ refused 57) × (groups_of plan ≡ five)
unfolding groups_answer groups_of groups_bytes read_plan head_answer arrays_answer words encode all sum reaches collect distance_within
groups-five = (refl, refl, refl)

-- two nodes and no helper
abbrev primary : List ℕ
primary = encode (2 ∷ 0 ∷ 10 ∷ 0 ∷ 1 ∷ 0 ∷ 0 ∷ [])

pub groups-primary : groups_of primary ≡ encode (2 ∷ 64 ∷ 64 ∷ 64 ∷ 64 ∷ [])
unfolding groups_of groups_bytes read_plan head_answer arrays_answer words encode all sum reaches collect distance_within
groups-primary = refl
