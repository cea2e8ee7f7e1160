-- Request 2026-07: helpers' own particles are left in place where their family can afford it. It is step (d4) of source document 002.
use Rattle.std.specs.Prelude.{◌≡◌, Bool, true, cond, List, ℕ, ◌+◌, ◌*◌, ◌≤◌, ◌<◌, min, max, leb}
use Rattle.arrays.specs.Arrays.{at, tabulate}
use Rattle.sheet.specs.Table.{held}
use Rattle.tree.specs.Family.{helps, over_helpers}
use Rattle.tree.specs.Division.{own_of}

-- "A helper's hold is the larger of its least and its own-subdomain holding capped at L." Hold is the request's term. The own-subdomain
-- holding of k is what k itself holds of subdomain k.
abbrev pub hold : ℕ → (ℕ → ℕ) → (ℕ → ℕ → ℕ) → ℕ → ℕ
hold limit least held k = max (least k) (min (held k k) limit)

-- the holds of all nodes
abbrev pub holds_of : ℕ → ℕ → List ℕ → List ℕ → List ℕ
holds_of nodes limit leasts table = tabulate nodes (hold limit (at leasts) (held table))

-- "the family's size": its owner and its helpers
abbrev pub family_size : ℕ → (ℕ → ℕ) → ℕ → ℕ
family_size nodes h n = 1 + over_helpers nodes h n (λ k. 1)

-- "If P of the family's owner plus its R plus its helpers' holds is at most L times the family's size": the family of n can afford them.
-- r is R.
unfoldable pub affords : ℕ → (ℕ → ℕ) → ℕ → (ℕ → ℕ) → (ℕ → ℕ) → ℕ → ℕ → Bool
affords nodes h limit holds total r n = leb (total n + r + over_helpers nodes h n holds) (limit * family_size nodes h n)

-- "space and standing load use hold in place of least. Otherwise they use least as before." In the family of n, what each helper leaves
-- for its own subdomain; no document has a word for it.
unfoldable pub reserve : ℕ → (ℕ → ℕ) → ℕ → (ℕ → ℕ) → (ℕ → ℕ) → (ℕ → ℕ → ℕ) → ℕ → ℕ → ℕ → ℕ
reserve nodes h limit least total held r n =
    let holds = hold limit least held in
    cond (affords nodes h limit holds total r n) holds least

-- "Leave helpers' own particles in place", by the shares of a plan alone: each helper of a family that can afford the holds has of its own
-- subdomain at least what it held already, capped at L.
abbrev pub OwnInPlace : ℕ → (ℕ → ℕ) → ℕ → (ℕ → ℕ) → (ℕ → ℕ) → (ℕ → ℕ → ℕ) → (ℕ → ℕ) → Type 0
OwnInPlace nodes h limit least total held share =
    (n k : ℕ) → n < nodes → k < nodes → helps h n k ≡ true → affords nodes h limit (hold limit least held) total (share n) n ≡ true
    → min (held k k) limit ≤ own_of nodes h total share k
