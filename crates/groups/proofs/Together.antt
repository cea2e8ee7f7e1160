-- What the entries say: a node's entry is the owner of the one group that it is in, so that two different nodes share one exactly when
-- they belong to one family. Assumes nothing.
use mathlib.Core.Path.{◌≡◌, refl, sym, ap, ◌∙◌}
use mathlib.Core.Logic.{◌≢◌, ◌⊎◌, inl, inr}
use mathlib.Core.Bool.{Bool, true, false, ◌||◌, or-true}
use Prim.Native.Nat.{ℕ, ◌<◌}
use native.Mathlib.Decide.{ℕ_discrete}
use native.Mathlib.Omega.{arith}
use borrow.Author.Tests.{eq-eqb, ne_eqb}
use Rattle.fold.proofs.Tests.{either, and_left, and_right, and_both}
use Rattle.tree.specs.Family.{helps}
use Rattle.tree.proofs.Families.{helps_of, helper-below, helps-helpand}
use Rattle.groups.specs.declared.colour.Colour.{Colour}
use Rattle.groups.specs.Colour.{distance, coloured}
use Rattle.groups.specs.Group.{has_helper, is_group, none, group_in, belongs, in_group, OneFamily, ShareEntry}
use Rattle.groups.specs.Groups.{MessageGroups}
use Rattle.groups.specs.Inner.{Rooted}
use Rattle.groups.proofs.Owners.{has-helper}
use Rattle.groups.proofs.Entries.{group_has, group_not, helper-other}

-- ---- members of a family

module _ (h : ℕ → ℕ) where
  pub belongs-owner : (n : ℕ) → belongs h n n ≡ true
  belongs-owner n = rw (eq-eqb n n refl)

  pub belongs-helpand : (k : ℕ) → belongs h (h k) k ≡ true
  belongs-helpand k = elim (ℕ_discrete (h k) k) [
    | yes e ↦ rw (eq-eqb k (h k) (sym e))
    | no d ↦ rw (helps-helpand h k d, or-true)
  ]

  -- a member is the owner or a helper
  member : (n k : ℕ) → belongs h n k ≡ true → (k ≡ n) ⊎ (helps h n k ≡ true)
  member n k e = elim (ℕ_discrete k n) [
    | yes q ↦ inl q
    | no d ↦ inr (ap (λ (b : Bool). b || helps h n k) (sym (ne_eqb k n d)) ∙ e)
  ]

module _ {n : ℕ} {h : ℕ → ℕ} (t : Rooted n h) (c : Colour) where
  -- ---- one node

  module _ (k : ℕ) (l : k < n) where
    abbrev entry : ℕ
    entry = group_in n h c k

    -- the own family is the group, or the helpand's, or there is none
    abbrev Cases : Type 0
    Cases = ((is_group n h c k ≡ true) × (entry ≡ k)) ⊎ (((is_group n h c (h k) ≡ true) × (entry ≡ h k)) ⊎ (entry ≡ none))

    entry-is : Cases
    entry-is = own (either (is_group n h c k)) (either (is_group n h c (h k)))
      where
        own : (is_group n h c k ≡ true) ⊎ (is_group n h c k ≡ false) → (is_group n h c (h k) ≡ true) ⊎ (is_group n h c (h k) ≡ false) → Cases
        own (inl y) x = inl (y, rw y)
        own (inr f) (inl y) = inr (inl (y, rw (f, y)))
        own (inr f) (inr g) = inr (inr (rw (f, g)))

    pub entry-node : (entry < n) ⊎ (entry ≡ none)
    entry-node = by entry-is
      where
        by : Cases → (entry < n) ⊎ (entry ≡ none)
        by (inl w) = inl (omega (arith, w.1))
        by (inr (inl w)) = inl (omega (arith, w.1, t.inside k l))
        by (inr (inr z)) = inr z

    -- the group that an entry names
    names : (m : ℕ) → m < n → entry ≡ m → in_group n h c m k ≡ true
    names m b e = by entry-is
      where
        by : Cases → in_group n h c m k ≡ true
        by (inl w) = rw (sym e ∙ w.1) (and_both (is_group n h c k) (belongs h k k) w.0 (belongs-owner h k))
        by (inr (inl w)) = rw (sym e ∙ w.1) (and_both (is_group n h c (h k)) (belongs h (h k) k) w.0 (belongs-helpand h k))
        by (inr (inr z)) = absurd (omega (arith, e, z, t.few))

    -- the entry of a group's member
    named : (m : ℕ) → in_group n h c m k ≡ true → entry ≡ m
    named m e = by (member h m k (and_right (is_group n h c m) (belongs h m k) e))
      where
        group : is_group n h c m ≡ true
        group = and_left (is_group n h c m) (belongs h m k) e

        by : (k ≡ m) ⊎ (helps h m k ≡ true) → entry ≡ m
        by (inl q) = rw (q, group)
        by (inr y) =
            let q = helps_of h m k y in
            let colour = and_right (has_helper n h m) (coloured c (distance n h m)) group in
            let other = group_not n h c k (helper-other t c k l (helper-below h m k y) (rw q colour)) in
            rw (other, q, group)

    alone : (i m : ℕ) → in_group n h c i k ≡ true → in_group n h c m k ≡ true → i ≡ m
    alone i m e f = sym (named i e) ∙ named m f

  -- ---- two nodes

  module _ (j k : ℕ) (lj : j < n) (lk : k < n) where
    shared : ShareEntry (group_in n h c) j k → OneFamily n h c j k
    shared s = by (entry-node j lj)
      where
        family : (m : ℕ) → m < n → group_in n h c j ≡ m → group_in n h c k ≡ m → OneFamily n h c j k
        family m l e f =
            let first = names j lj m l e in
            let second = names k lk m l f in
            let group = and_left (is_group n h c m) (belongs h m j) first in
            record {
              owner = m;
              node = l;
              colour = and_right (has_helper n h m) (coloured c (distance n h m)) group;
              first = and_right (is_group n h c m) (belongs h m j) first;
              second = and_right (is_group n h c m) (belongs h m k) second;
            }

        by : (group_in n h c j < n) ⊎ (group_in n h c j ≡ none) → OneFamily n h c j k
        by (inl l) = family (group_in n h c j) l refl (sym s.same)
        by (inr z) = absurd (s.some z)

    -- of two different members one is a helper
    pair_helped : (m : ℕ) → j ≢ k → belongs h m j ≡ true → belongs h m k ≡ true → has_helper n h m ≡ true
    pair_helped m d e f = by (member h m j e) (member h m k f)
      where
        by : (j ≡ m) ⊎ (helps h m j ≡ true) → (k ≡ m) ⊎ (helps h m k ≡ true) → has_helper n h m ≡ true
        by (inr y) x = has-helper n h m j lj y
        by (inl p) (inr y) = has-helper n h m k lk y
        by (inl p) (inl q) = absurd (d (p ∙ sym q))

    sharing : j ≢ k → OneFamily n h c j k → ShareEntry (group_in n h c) j k
    sharing d o =
        let m = o.owner in
        let group : is_group n h c m ≡ true = group_has n h c m o.colour ∙ pair_helped m d o.first o.second in
        let first = named j lj m (and_both (is_group n h c m) (belongs h m j) group o.first) in
        let second = named k lk m (and_both (is_group n h c m) (belongs h m k) group o.second) in
        record { same = first ∙ sym second; some = λ z. omega (arith, first, o.node, t.few) }

-- THEOREM. Entries that are each node's group say what a message library needs.
pub message_groups : {n : ℕ} {h : ℕ → ℕ} (t : Rooted n h) (entry : Colour → ℕ → ℕ)
    → ((c : Colour) (k : ℕ) → k < n → entry c k ≡ group_in n h c k) → MessageGroups n h entry
message_groups {n} {h} t entry is = record {
  together = λ c j k lj lk d. (
    λ s. shared t c j k lj lk (record { same = sym (is c j lj) ∙ s.same ∙ is c k lk; some = λ z. s.some (is c j lj ∙ z) }),
    λ o.
        let s = sharing t c j k lj lk d o in
        record { same = is c j lj ∙ s.same ∙ sym (is c k lk); some = λ z. s.some (sym (is c j lj) ∙ z) },
  );
  named = λ c m k lm lk. (λ e. names t c k lk m lm (sym (is c k lk) ∙ e), λ g. is c k lk ∙ named t c k lk m g);
  alone = λ c i m k l. alone t c k l i m;
  owner = λ c m l y e. is c m l ∙ rw (group_has n h c m e, y);
  node = λ c k l. rw (is c k l) (entry-node t c k l);
}
