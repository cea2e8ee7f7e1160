-- Shares by example, beside the steps of document 01; the first one is request 2026-03's, and those with holds come last. The theorem
-- computes, the leasts too.
-- Assumes nothing.
use mathlib.Core.Path.{◌≡◌, refl}
use mathlib.Core.List.{List, [], ◌∷◌, map}
use Prim.Native.Nat.{ℕ}
use lib.ListN.{get_or, length}
use Rattle.fold.specs.Sum.{sum}
use Rattle.fold.specs.Best.{best}
use Rattle.fold.specs.Collect.{collect}
use Rattle.arrays.specs.Arrays.{padded, at, tabulate}
use Rattle.tree.specs.Least.{least_within, least}
use Rattle.tree.specs.Down.{down}
use Rattle.shares.specs.Fill.{chosen, fill}
use Rattle.shares.specs.Hold.{affords, reserve}
use Rattle.shares.specs.Shares.{in_family, space, beside, divided, amount, kept_shares}

-- the limit, the helpands, a row of holdings for each node, and the shares
pub record Example : Type 0 where
  pub limit : ℕ
  pub helpands : List ℕ
  pub rows : List (List ℕ)
  pub shares : List ℕ

abbrev pub held_in : List (List ℕ) → ℕ → ℕ → ℕ
held_in rows k n = at (get_or rows k []) n

abbrev pub shares_in : Example → List ℕ
shares_in x =
    let nodes = length x.helpands in
    let h = at x.helpands in
    let total : ℕ → ℕ = λ n. sum nodes (λ k. held_in x.rows k n) in
    kept_shares nodes h x.limit (least nodes h total x.limit) total (held_in x.rows)

abbrev pub example : ℕ → List ℕ → List (List ℕ) → List ℕ → Example
example limit helpands rows shares = record { limit = limit; helpands = helpands; rows = rows; shares = shares }

unfoldable pub examples : List Example
examples =
    -- E with subdomain 0 held 34, 23, 30: node 1 stands at 29 and node 0 at 34, so the rest of 1 goes to node 1
    example 36 (0 ∷ 0 ∷ 0 ∷ []) ((34 ∷ 0 ∷ 3 ∷ []) ∷ (23 ∷ 6 ∷ 0 ∷ []) ∷ (30 ∷ 0 ∷ 4 ∷ []) ∷ []) (0 ∷ 24 ∷ 29 ∷ [])
    -- node 2, the owner, is full, and both helpers are raised to 11
    ∷ example 12 (2 ∷ 2 ∷ 2 ∷ []) ((2 ∷ 0 ∷ 0 ∷ []) ∷ (0 ∷ 2 ∷ 0 ∷ []) ∷ (0 ∷ 0 ∷ 30 ∷ []) ∷ []) (9 ∷ 9 ∷ 0 ∷ [])
    -- node 1 has a share of 5, and so keeps but 5 of its own 8
    ∷ example 10 (0 ∷ 0 ∷ 1 ∷ []) ((15 ∷ 0 ∷ 0 ∷ []) ∷ (0 ∷ 8 ∷ 0 ∷ []) ∷ (0 ∷ 0 ∷ 0 ∷ []) ∷ []) (0 ∷ 5 ∷ 3 ∷ [])
    -- what a node outside the family holds is part of the rest: nodes 0 and 1 are raised from 2 and 3 to 7
    ∷ example 10 (0 ∷ 0 ∷ 1 ∷ []) ((2 ∷ 0 ∷ 0 ∷ []) ∷ (3 ∷ 0 ∷ 0 ∷ []) ∷ (9 ∷ 0 ∷ 0 ∷ []) ∷ []) (0 ∷ 7 ∷ 0 ∷ [])
    -- on ties the lowest number: node 0, and not node 1, which is the owner
    ∷ example 9 (1 ∷ 1 ∷ 1 ∷ 0 ∷ [])
    ((0 ∷ 0 ∷ 0 ∷ 0 ∷ []) ∷ (0 ∷ 0 ∷ 0 ∷ 0 ∷ []) ∷ (0 ∷ 0 ∷ 0 ∷ 0 ∷ []) ∷ (0 ∷ 10 ∷ 0 ∷ 0 ∷ []) ∷ []) (4 ∷ 0 ∷ 3 ∷ 0 ∷ [])
    -- node 1 stands at R + 4 = 14, and its helpers are raised from their leasts, 6 and 9, to 13
    ∷ example 20 (0 ∷ 0 ∷ 1 ∷ 1 ∷ 0 ∷ [])
    ((20 ∷ 0 ∷ 0 ∷ 0 ∷ 0 ∷ []) ∷ (10 ∷ 4 ∷ 0 ∷ 0 ∷ 0 ∷ []) ∷ (0 ∷ 0 ∷ 6 ∷ 0 ∷ 0 ∷ []) ∷ (0 ∷ 0 ∷ 0 ∷ 9 ∷ 0 ∷ [])
    ∷ (2 ∷ 11 ∷ 0 ∷ 0 ∷ 1 ∷ []) ∷ []) (0 ∷ 10 ∷ 7 ∷ 4 ∷ 2 ∷ [])
    -- node 1 has its least, 0, and its hold, 20, and 50 + 0 + 20 is 35 × 2: it keeps 15 of subdomain 0, and all 20 of its own
    ∷ example 35 (0 ∷ 0 ∷ 1 ∷ []) ((20 ∷ 0 ∷ 0 ∷ []) ∷ (30 ∷ 20 ∷ 0 ∷ []) ∷ (0 ∷ 0 ∷ 0 ∷ []) ∷ []) (0 ∷ 15 ∷ 0 ∷ [])
    -- one particle more, and 51 + 0 + 20 is above it: node 1 keeps all 30, and 15 of its own go to node 2
    ∷ example 35 (0 ∷ 0 ∷ 1 ∷ []) ((21 ∷ 0 ∷ 0 ∷ []) ∷ (30 ∷ 20 ∷ 0 ∷ []) ∷ (0 ∷ 0 ∷ 0 ∷ []) ∷ []) (0 ∷ 30 ∷ 15 ∷ [])
    -- node 1 holds 12 of its own, and its hold is the limit: 10 + 0 + 10 is 10 × 2
    ∷ example 10 (0 ∷ 0 ∷ 1 ∷ []) ((5 ∷ 0 ∷ 0 ∷ []) ∷ (5 ∷ 12 ∷ 0 ∷ []) ∷ (0 ∷ 0 ∷ 0 ∷ []) ∷ []) (0 ∷ 0 ∷ 2 ∷ [])
    -- R counts: in the family of node 1, 12 + 6 + 6 is above 10 × 2, and node 2 stands at its least, 0
    ∷ example 10 (0 ∷ 0 ∷ 1 ∷ 2 ∷ [])
    ((9 ∷ 0 ∷ 0 ∷ 0 ∷ []) ∷ (6 ∷ 0 ∷ 0 ∷ 0 ∷ []) ∷ (0 ∷ 0 ∷ 6 ∷ 0 ∷ []) ∷ (0 ∷ 12 ∷ 0 ∷ 0 ∷ []) ∷ []) (0 ∷ 6 ∷ 9 ∷ 5 ∷ [])
    -- hold counts in the standing load: node 0 is raised to 8, where node 1 stands, and then both to 12
    ∷ example 20 (0 ∷ 0 ∷ 1 ∷ []) ((0 ∷ 0 ∷ 0 ∷ []) ∷ (0 ∷ 8 ∷ 0 ∷ []) ∷ (16 ∷ 0 ∷ 0 ∷ []) ∷ []) (0 ∷ 4 ∷ 0 ∷ [])
    ∷ []

-- THEOREM. The shares of all these examples are as noted.
pub examples_shared : map shares_in examples ≡ map (λ x. padded x.shares) examples
unfolding examples sum best collect tabulate least_within chosen fill affords reserve in_family space beside divided amount down
examples_shared = refl
