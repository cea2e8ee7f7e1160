-- Request 2026-06: groups are "coloured by whether its owner's distance from the root is even or odd."
use Rattle.std.specs.Prelude.{Bool, cond, ℕ, zero, suc, ◌%◌, eqb}
use Rattle.plan.specs.Tree.{is_root}
use Rattle.groups.specs.declared.colour.Colour.{Colour}
use Rattle.groups.specs.declared.colour.Colour.TheVariants.{Even, Odd}

-- the steps from k to the root along the chain of helpands, which is followed so many steps
unfoldable pub distance_within : (ℕ → ℕ) → ℕ → ℕ → ℕ
distance_within h zero k = 0
distance_within h (suc steps) k =
    let next = distance_within h steps (h k) in
    cond (is_root h k) 0 (suc next)

-- a node's "distance from the root": no chain of so many nodes is longer
abbrev pub distance : ℕ → (ℕ → ℕ) → ℕ → ℕ
distance nodes h k = distance_within h nodes k

-- "even or odd": whether an owner at this distance has a family of this colour
abbrev pub coloured : Colour → ℕ → Bool
coloured Even d = eqb (d % 2) 0
coloured Odd d = eqb (d % 2) 1
