-- Laws of the distances that are known, one for each store into them. Assumes nothing.
use mathlib.Core.Path.{◌≡◌, refl, sym, ◌∙◌}
use mathlib.Core.Logic.{◌≢◌, ◌⊎◌, inl, inr}
use mathlib.Core.List.{List}
use Prim.Native.Nat.{ℕ, ◌+◌, ◌-◌, ◌≤◌, ◌<◌}
use native.Mathlib.Decide.{ℕ_discrete}
use native.Mathlib.Omega.{arith}
use lib.ListN.{length, set, replicate, length-set, length-replicate, get_or-replicate}
use lib.Seq.{get_or-set_same, get_or-set_other}
use Rattle.limit.specs.Limit.{max_nodes}
use Rattle.arrays.specs.Arrays.{at}
use Rattle.groups.specs.Colour.{distance}
use Rattle.groups.specs.Inner.{Rooted, Known, Noted, unknown}
use Rattle.groups.proofs.Distances.{distance-root, distance-step, distance_most}

-- ---- the roots' distances: those below k are known

pub record RootsKnown (nodes : ℕ) (h : ℕ → ℕ) (k : ℕ) (known : List ℕ) : Type 0 where
  pub size : length known ≡ max_nodes
  pub right : (j : ℕ) → j < nodes → at known j ≢ unknown → at known j ≡ distance nodes h j
  pub root : (j : ℕ) → j < k → h j ≡ j → at known j ≢ unknown

module _ {nodes : ℕ} {h : ℕ → ℕ} where
  pub roots-none : nodes ≤ max_nodes → RootsKnown nodes h 0 (replicate 64 unknown)
  roots-none few = record {
    size = length-replicate {A = ℕ} 64 unknown;
    right = λ j l d. absurd (d (get_or-replicate 64 j unknown 0 (omega arith)));
    root = λ j l. absurd (omega arith);
  }

  module _ {k : ℕ} {known : List ℕ} (x : RootsKnown nodes h k known) where
    pub roots-helper : h k ≢ k → RootsKnown nodes h (k + 1) known
    roots-helper d = record {
      size = x.size;
      right = x.right;
      root = λ j l e. elim (ℕ_discrete j k) [
        | yes q ↦ absurd (d (rw q at e))
        | no c ↦ x.root j (omega arith) e
      ];
    }

    pub roots-root : k < max_nodes → h k ≡ k → RootsKnown nodes h (k + 1) (set known k 0)
    roots-root l r = record {
      size = length-set known k 0 ∙ x.size;
      right = λ j b d. elim (ℕ_discrete j k) [
        | yes q ↦ rw q (here ∙ sym (distance-root nodes h k r))
        | no c ↦ let s = get_or-set_other known k j 0 0 c in s ∙ x.right j b (λ z. d (s ∙ z))
      ];
      root = λ j b e z. elim (ℕ_discrete j k) [
        | yes q ↦ absurd (omega (arith, here, rw q at z))
        | no c ↦ x.root j (omega arith) e (sym (get_or-set_other known k j 0 0 c) ∙ z)
      ];
    }
      where
        here : at (set known k 0) k ≡ 0
        here = get_or-set_same known k 0 0 (omega (arith, x.size))

  pub roots-all : {known : List ℕ} → RootsKnown nodes h nodes known → Known nodes h known
  roots-all x = record { size = x.size; right = x.right; root = x.root }

-- ---- a node that is not known, and its distance noted

module _ {nodes : ℕ} {h : ℕ → ℕ} {known : List ℕ} (t : Rooted nodes h) (x : Known nodes h known) (m : ℕ) (l : m < nodes) where
  -- it is no root, so its helpand is nearer
  pub unknown-step : at known m ≡ unknown → distance nodes h m ≡ distance nodes h (h m) + 1
  unknown-step e = distance-step t m l (λ r. x.root m l r e) ∙ omega arith

  module _ (v : ℕ) (is : v ≡ distance nodes h m) where
    here : at (set known m v) m ≡ v
    here = get_or-set_same known m v 0 (omega (arith, x.size, t.few))

    note_here : at (set known m v) m ≢ unknown
    note_here e = omega (arith, here, is, distance_most t m)

    note_kept : (j : ℕ) → at known j ≢ unknown → at (set known m v) j ≢ unknown
    note_kept j d = elim (ℕ_discrete j m) [
      | yes e ↦ rw e note_here
      | no c ↦ rw (get_or-set_other known m j v 0 c) d
    ]

    note_known : Known nodes h (set known m v)
    note_known = record {
      size = length-set known m v ∙ x.size;
      right = λ j b d. elim (ℕ_discrete j m) [
        | yes e ↦ rw e (here ∙ is)
        | no c ↦ let s = get_or-set_other known m j v 0 c in s ∙ x.right j b (λ z. d (s ∙ z))
      ];
      root = λ j b r. note_kept j (x.root j b r);
    }

-- ---- along the chain of k: the nodes from k to `node` are noted

pub record Noting (nodes : ℕ) (h : ℕ → ℕ) (k : ℕ) (before known : List ℕ) (node left : ℕ) : Type 0 where
  pub below : node < nodes
  pub left_is : left ≡ distance nodes h node
  pub right : Known nodes h known
  pub kept : (j : ℕ) → at before j ≢ unknown → at known j ≢ unknown
  pub noted : (node ≡ k) ⊎ (at known k ≢ unknown)

module _ {nodes : ℕ} {h : ℕ → ℕ} {k : ℕ} {before : List ℕ} where
  pub noting_begin : {from : ℕ} → Known nodes h before → k < nodes → from ≡ distance nodes h k → Noting nodes h k before before k from
  noting_begin x l e = record { below = l; left_is = e; right = x; kept = λ j d. d; noted = inl refl }

  module _ {known : List ℕ} {node left : ℕ} (x : Noting nodes h k before known node left) where
    pub noting_next : Rooted nodes h → at known node ≡ unknown → Noting nodes h k before (set known node left) (h node) (left - 1)
    noting_next t e = record {
      below = t.inside node x.below;
      left_is = omega (arith, x.left_is, unknown-step t x.right node x.below e);
      right = note_known t x.right node x.below left x.left_is;
      kept = λ j d. keep j (x.kept j d);
      noted = inr (by x.noted);
    }
      where
        keep : (j : ℕ) → at known j ≢ unknown → at (set known node left) j ≢ unknown
        keep = note_kept t x.right node x.below left x.left_is

        by : (node ≡ k) ⊎ (at known k ≢ unknown) → at (set known node left) k ≢ unknown
        by (inl q) = rw (← q) (note_here t x.right node x.below left x.left_is)
        by (inr d) = keep k d

    -- the chain has come to a node that was known
    pub noting_end : at known node ≢ unknown → Noted nodes h k before known
    noting_end d = record { known = x.right; noted = by x.noted; kept = x.kept }
      where
        by : (node ≡ k) ⊎ (at known k ≢ unknown) → at known k ≢ unknown
        by (inl q) = rw (← q) d
        by (inr y) = y
