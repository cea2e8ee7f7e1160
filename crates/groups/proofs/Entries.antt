-- A node's entries, from the colours of its own family and of its helpand's, which differ. Assumes nothing.
use mathlib.Core.Path.{◌≡◌, refl, sym, ap, ◌∙◌}
use mathlib.Core.Logic.{◌≢◌, ◌⊎◌, inl, inr}
use mathlib.Core.Bool.{Bool, true, false, not, ◌&&◌, and-false, and-true}
use mathlib.Core.List.{List}
use Prim.Native.Nat.{ℕ, suc, ◌<◌, ◌%◌}
use native.Mathlib.Decide.{ℕ_discrete}
use native.Mathlib.Omega.{arith}
use borrow.Author.Tests.{eq-eqb, ne_eqb}
use Rattle.fold.proofs.Tests.{either}
use Rattle.arrays.specs.Arrays.{at}
use Rattle.tree.proofs.Families.{helps-helpand}
use Rattle.groups.specs.declared.colour.Colour.{Colour}
use Rattle.groups.specs.declared.colour.Colour.TheVariants.{Even, Odd}
use Rattle.groups.specs.Colour.{distance, coloured}
use Rattle.groups.specs.Group.{has_helper, is_group, group_in}
use Rattle.groups.specs.Inner.{Rooted, Groupable, own_group, helped_group}
use Rattle.groups.proofs.Distances.{distance-step}
use Rattle.groups.proofs.Owners.{has-helper}

not-not : (b : Bool) → not (not b) ≡ b
not-not true = refl
not-not false = refl

-- ---- the two colours

-- every distance has one of them, and not the other
odd_not : (d : ℕ) → coloured Odd d ≡ not (coloured Even d)
odd_not d = elim (ℕ_discrete (d % 2) 0) [
  | yes e ↦ rw (eq-eqb (d % 2) 0 e) (ne_eqb (d % 2) 1 (λ z. omega arith))
  | no c ↦ rw (ne_eqb (d % 2) 0 c) (eq-eqb (d % 2) 1 (omega arith))
]

pub some-colour : (d : ℕ) → (c : Colour) × (coloured c d ≡ true)
some-colour d = by (either (coloured Even d))
  where
    by : (coloured Even d ≡ true) ⊎ (coloured Even d ≡ false) → (c : Colour) × (coloured c d ≡ true)
    by (inl e) = (Even, e)
    by (inr e) = (Odd, odd_not d ∙ ap not e)

pub even-not_odd : (d : ℕ) → coloured Even d ≡ true → coloured Odd d ≡ false
even-not_odd d e = odd_not d ∙ ap not e

pub odd_not-even : (d : ℕ) → coloured Odd d ≡ true → coloured Even d ≡ false
odd_not-even d e = sym (not-not (coloured Even d)) ∙ ap not (sym (odd_not d) ∙ e)

-- one step farther is the other colour
even-next : (d : ℕ) → coloured Even (suc d) ≡ not (coloured Even d)
even-next d = elim (ℕ_discrete (d % 2) 0) [
  | yes e ↦ rw (eq-eqb (d % 2) 0 e) (ne_eqb (suc d % 2) 0 (λ z. omega arith))
  | no c ↦ rw (ne_eqb (d % 2) 0 c) (eq-eqb (suc d % 2) 0 (omega arith))
]

other-colour : (c : Colour) (d : ℕ) → coloured c (suc d) ≡ not (coloured c d)
other-colour Even d = even-next d
other-colour Odd d = odd_not (suc d) ∙ ap not (even-next d ∙ sym (odd_not d))

-- ---- a family whose colour is known

module _ (nodes : ℕ) (h : ℕ → ℕ) (c : Colour) (n : ℕ) where
  pub group_has : coloured c (distance nodes h n) ≡ true → is_group nodes h c n ≡ has_helper nodes h n
  group_has e = ap (λ (b : Bool). has_helper nodes h n && b) e ∙ and-true (has_helper nodes h n)

  pub group_not : coloured c (distance nodes h n) ≡ false → is_group nodes h c n ≡ false
  group_not e = ap (λ (b : Bool). has_helper nodes h n && b) e ∙ and-false (has_helper nodes h n)

-- ---- the entry of node k

module _ {nodes : ℕ} {h : ℕ → ℕ} (t : Rooted nodes h) (c : Colour) where
  -- the colour of the family of n
  abbrev Coloured : ℕ → Bool → Type 0
  Coloured n b = coloured c (distance nodes h n) ≡ b

  module _ (k : ℕ) (l : k < nodes) where
    -- a helper's own family and its helpand's have different colours
    other : h k ≢ k → coloured c (distance nodes h k) ≡ not (coloured c (distance nodes h (h k)))
    other d = ap (coloured c) (distance-step t k l d) ∙ other-colour c (distance nodes h (h k))

    pub helper-other : h k ≢ k → Coloured (h k) true → Coloured k false
    helper-other d e = other d ∙ ap not e

    helpand-other : h k ≢ k → (b : Bool) → Coloured k b → Coloured (h k) (not b)
    helpand-other d b e = sym (not-not (coloured c (distance nodes h (h k)))) ∙ ap not (sym (other d) ∙ e)

    abbrev Is : ℕ → Type 0
    Is g = group_in nodes h c k ≡ g

    -- the own family has the colour
    pub entry-own : Coloured k true → Is (own_group nodes h k)
    entry-own e = by (either (has_helper nodes h k))
      where
        by : (has_helper nodes h k ≡ true) ⊎ (has_helper nodes h k ≡ false) → Is (own_group nodes h k)
        by (inl y) = rw (group_has nodes h c k e, y)
        by (inr n) = elim (ℕ_discrete (h k) k) [
          | yes r ↦ rw (r, group_has nodes h c k e, n)
          | no d ↦ rw (group_has nodes h c k e, n, group_not nodes h c (h k) (helpand-other d true e))
        ]

    -- it has not: then the helpand's has it, where there is one
    pub entry_helped : Coloured k false → Is (helped_group (h k) k)
    entry_helped e = elim (ℕ_discrete (h k) k) [
      | yes r ↦ rw (eq-eqb (h k) k r, r, group_not nodes h c k e)
      | no d ↦
          rw (
            ne_eqb (h k) k d,
            group_not nodes h c k e,
            group_has nodes h c (h k) (helpand-other d false e),
            has-helper nodes h (h k) k l (helps-helpand h k d),
          )
    ]

-- both entries, from the colour of the own family
module _ {nodes : ℕ} {h : ℕ → ℕ} {distances own : List ℕ} (g : Groupable nodes h distances own) (k : ℕ) (l : k < nodes) where
  colour-of : (c : Colour) (b : Bool) → coloured c (at distances k) ≡ b → coloured c (distance nodes h k) ≡ b
  colour-of c b e = ap (coloured c) (sym (g.each_distance k l)) ∙ e

  as-owner : (c : Colour) → coloured c (at distances k) ≡ true → at own k ≡ group_in nodes h c k
  as-owner c e = g.each_own k l ∙ sym (entry-own g.rooted c k l (colour-of c true e))

  as-helper : (c : Colour) → coloured c (at distances k) ≡ false → helped_group (h k) k ≡ group_in nodes h c k
  as-helper c e = sym (entry_helped g.rooted c k l (colour-of c false e))

  pub entries-even : coloured Even (at distances k) ≡ true
      → (at own k ≡ group_in nodes h Even k) × (helped_group (h k) k ≡ group_in nodes h Odd k)
  entries-even e = (as-owner Even e, as-helper Odd (even-not_odd (at distances k) e))

  pub entries-odd : coloured Odd (at distances k) ≡ true
      → (helped_group (h k) k ≡ group_in nodes h Even k) × (at own k ≡ group_in nodes h Odd k)
  entries-odd e = (as-helper Even (odd_not-even (at distances k) e), as-owner Odd e)
