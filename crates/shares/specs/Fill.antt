-- How the rest of a family is filled. Request 2026-03: "So the rest now goes as if one particle after another were given to the family
-- member with the smallest standing load that still has space, lowest node number on ties." Nothing else says in which order members are
-- filled.
use Rattle.std.specs.Prelude.{ℕ, zero, suc, ◌+◌, ◌-◌, Bool, List, ltb, set, None, Option, Some}
use Rattle.fold.specs.Best.{smallest}
use Rattle.arrays.specs.Arrays.{at}

-- what a member has space for beyond its amount
abbrev pub room : (ℕ → ℕ) → (ℕ → ℕ) → ℕ → ℕ
room space amount k = space k - amount k

-- "Standing load is R plus its amount for the owner, and least plus its amount for a helper." The request's term. `beside` is R for the
-- owner and least for a helper.
abbrev pub standing_load : (ℕ → ℕ) → (ℕ → ℕ) → ℕ → ℕ
standing_load beside amount k = beside k + amount k

-- the member "that still has space"; a node that is no member has none
abbrev pub has_space : (ℕ → ℕ) → (ℕ → ℕ) → ℕ → Bool
has_space space amount k = ltb (amount k) (space k)

-- "the family member with the smallest standing load that still has space, lowest node number on ties"
unfoldable pub chosen : ℕ → (ℕ → ℕ) → (ℕ → ℕ) → List ℕ → Option ℕ
chosen nodes beside space amounts = smallest (has_space space (at amounts)) (standing_load beside (at amounts)) nodes

-- one particle more for the member that is found
abbrev pub given : Option ℕ → List ℕ → List ℕ
given (Some k) amounts = set amounts k (at amounts k + 1)
given None amounts = amounts

-- "one particle after another": the amounts once all of the rest is given, on top of what is kept. What nobody has space for is not given.
unfoldable pub fill : ℕ → (ℕ → ℕ) → (ℕ → ℕ) → List ℕ → ℕ → List ℕ
fill nodes beside space amounts zero = amounts
fill nodes beside space amounts (suc rest) = fill nodes beside space (given (chosen nodes beside space amounts) amounts) rest
