-- What the members of a family have, for each way that the tests of a member can go, and their spaces. Assumes nothing.
use mathlib.Core.Path.{◌≡◌, refl, sym, ap, ap₂, ◌∙◌, fun_ext}
use mathlib.Core.Logic.{◌≢◌, ◌⊎◌, inl, inr}
use mathlib.Core.Bool.{true, false, cond}
use mathlib.Core.List.{List}
use Prim.Native.Nat.{ℕ, ◌+◌, ◌-◌, ◌≤◌, ◌<◌}
use native.Mathlib.Decide.{ℕ_discrete}
use native.Mathlib.Omega.{arith}
use lib.Dec.{eqb}
use borrow.Author.Tests.{eq-eqb, ne_eqb}
use Rattle.fold.specs.Sum.{only, sum}
use Rattle.fold.proofs.Tests.{either}
use Rattle.arrays.specs.Arrays.{at}
use Rattle.tree.specs.Family.{helps, over_helpers}
use Rattle.tree.proofs.Families.{helps-ne, helpers_eq, family_sum}
use Rattle.shares.specs.Fill.{room}
use Rattle.shares.specs.Shares.{in_family, space, beside}
use Rattle.shares.proofs.Terms.{spaces_in, amounts_now, rooms_now}

-- ---- the owner, a helper, and any other node

module _ (h : ℕ → ℕ) (n own : ℕ) (helper : ℕ → ℕ) where
  pub family_own : in_family h n own helper n ≡ own
  unfolding in_family
  family_own = rw (eq-eqb n n refl)

  pub family_helper : (k : ℕ) → helps h n k ≡ true → in_family h n own helper k ≡ helper k
  unfolding in_family
  family_helper k y = rw (y, ne_eqb k n (helps-ne h n k y))

  pub family_other : (k : ℕ) → k ≢ n → helps h n k ≡ false → in_family h n own helper k ≡ 0
  unfolding in_family
  family_other k d y = rw (y, ne_eqb k n d)

-- what is true of the owner, of each helper and of each other node is true of each node
pub each-node : (h : ℕ → ℕ) (n : ℕ) (P : ℕ → Type 0) → P n → ((k : ℕ) → helps h n k ≡ true → P k)
    → ((k : ℕ) → k ≢ n → helps h n k ≡ false → P k) → (k : ℕ) → P k
each-node h n P o y z k = elim (ℕ_discrete k n) [
  | yes e ↦ rw e o
  | no d ↦ by (either (helps h n k)) d
]
  where
    by : (helps h n k ≡ true) ⊎ (helps h n k ≡ false) → k ≢ n → P k
    by (inl e) d = y k e
    by (inr e) d = z k d e

-- ---- spaces

module _ (h : ℕ → ℕ) (limit : ℕ) (reserve : ℕ → ℕ) (r n : ℕ) where
  pub space-own : space h limit reserve r n n ≡ limit - r
  unfolding space
  space-own = family_own h n (limit - r) (λ k. limit - reserve k)

  pub space-helper : (k : ℕ) → helps h n k ≡ true → space h limit reserve r n k ≡ limit - reserve k
  unfolding space
  space-helper = family_helper h n (limit - r) (λ k. limit - reserve k)

  pub space-other : (k : ℕ) → k ≢ n → helps h n k ≡ false → space h limit reserve r n k ≡ 0
  unfolding space
  space-other = family_other h n (limit - r) (λ k. limit - reserve k)

  -- only members have space, so only they have something
  pub family_part : (f : ℕ → ℕ) → ((k : ℕ) → f k ≤ space h limit reserve r n k) → (nodes : ℕ) → n < nodes
      → sum nodes f ≡ f n + over_helpers nodes h n f
  family_part f b nodes l = family_sum h n f nodes l (λ k d y. omega (arith, b k, space-other k d y))

  -- all the space that a family has
  pub space-sum : (nodes : ℕ) → n < nodes
      → sum nodes (space h limit reserve r n) ≡ limit - r + over_helpers nodes h n (λ k. limit - reserve k)
  space-sum nodes l =
      omega (
        arith,
        family_part (space h limit reserve r n) (λ k. omega arith) nodes l,
        space-own,
        helpers_eq nodes h n (space h limit reserve r n) (λ k. limit - reserve k) (λ k b y. space-helper k y),
      )

-- a node's space, and what it has beside its amount, depend on no other node's reserve
pub space-eq : (h : ℕ → ℕ) (limit : ℕ) (reserve reserve' : ℕ → ℕ) (r n k : ℕ) → reserve k ≡ reserve' k
    → space h limit reserve r n k ≡ space h limit reserve' r n k
unfolding space in_family
space-eq h limit reserve reserve' r n k e = ap (λ (x : ℕ). cond (eqb k n) (limit - r) (only (helps h n k) (limit - x))) e

pub beside-eq : (reserve reserve' : ℕ → ℕ) (r n k : ℕ) → reserve k ≡ reserve' k → beside reserve r n k ≡ beside reserve' r n k
unfolding beside
beside-eq reserve reserve' r n k = ap (cond (eqb k n) r)

-- ---- rooms

-- no room is above what the owner has and the limit
pub rooms-most : (limit : ℕ) (helpands reserves : List ℕ) (n own : ℕ) (noted : List ℕ) (most : ℕ) → own ≤ most → limit ≤ most
    → (k : ℕ) → rooms_now limit helpands reserves n own noted k ≤ most
rooms-most limit helpands reserves n own noted most o l =
    let left : ℕ → ℕ = λ k. limit - at reserves k - at noted k in
    each-node (at helpands) n (λ k. rooms_now limit helpands reserves n own noted k ≤ most)
    (omega (arith, family_own (at helpands) n own left))
    (λ k y. omega (arith, family_helper (at helpands) n own left k y))
    (λ k d y. omega (arith, family_other (at helpands) n own left k d y))

-- the rooms are what the members have space for beyond their amounts
pub rooms_are : (limit : ℕ) (helpands reserves : List ℕ) (n r own : ℕ) (noted : List ℕ)
    → rooms_now limit helpands reserves n (limit - r - own) noted
    ≡ room (spaces_in limit helpands reserves r n) (amounts_now helpands n own noted)
rooms_are limit helpands reserves n r own noted = fun_ext (each-node h n (λ k. rooms k ≡ room spaces amounts k) owner helper other)
  where
    h : ℕ → ℕ
    h = at helpands

    rooms : ℕ → ℕ
    rooms = rooms_now limit helpands reserves n (limit - r - own) noted

    spaces : ℕ → ℕ
    spaces = spaces_in limit helpands reserves r n

    amounts : ℕ → ℕ
    amounts = amounts_now helpands n own noted

    left : ℕ → ℕ
    left k = limit - at reserves k - at noted k

    owner : rooms n ≡ room spaces amounts n
    owner =
        family_own h n (limit - r - own) left
        ∙ sym (ap₂ (λ (x y : ℕ). x - y) (space-own h limit (at reserves) r n) (family_own h n own (at noted)))

    helper : (k : ℕ) → helps h n k ≡ true → rooms k ≡ room spaces amounts k
    helper k y =
        family_helper h n (limit - r - own) left k y
        ∙ sym (ap₂ (λ (x y : ℕ). x - y) (space-helper h limit (at reserves) r n k y) (family_helper h n own (at noted) k y))

    other : (k : ℕ) → k ≢ n → helps h n k ≡ false → rooms k ≡ room spaces amounts k
    other k d y = omega (arith, family_other h n (limit - r - own) left k d y, space-other h limit (at reserves) r n k d y)
