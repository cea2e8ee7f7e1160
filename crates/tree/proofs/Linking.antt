-- Laws of the links from helper to helper, which are made from the last node down. Assumes nothing.
use mathlib.Core.Path.{◌≡◌, refl, sym, ◌∙◌}
use mathlib.Core.Logic.{◌≢◌}
use mathlib.Core.Bool.{true}
use mathlib.Core.List.{List}
use Prim.Native.Nat.{ℕ, ◌+◌, ◌-◌, ◌≤◌, ◌<◌}
use native.Mathlib.Decide.{ℕ_discrete}
use native.Mathlib.Omega.{arith}
use lib.ListN.{length, set, replicate, length-set, get_or-replicate}
use lib.Seq.{get_or-set_same, get_or-set_other}
use Rattle.arrays.specs.Arrays.{at}
use Rattle.tree.specs.Family.{helps, over_helpers}
use Rattle.fold.specs.First.{FirstFrom}
use Rattle.fold.proofs.First.{first-end, first-here, first-later}
use Rattle.tree.specs.Links.{Linked}
use Rattle.tree.proofs.Families.{helps_of, helps-yes, helps_self, helps-other, helper-below, helpers_none, helpers_next, helpers_more}

-- the links once node m, which helps g, is put before g's other helpers
abbrev link_to : List ℕ → ℕ → ℕ → List ℕ
link_to links g m = set (set links (64 + m) (at links g)) g m

module _ (links : List ℕ) (g m : ℕ) where
  linked_other : (j : ℕ) → j ≢ g → j ≢ 64 + m → at (link_to links g m) j ≡ at links j
  linked_other j c f =
      get_or-set_other (set links (64 + m) (at links g)) g j m 0 c
      ∙ get_or-set_other links (64 + m) j (at links g) 0 f

  linked_after : length links ≡ 128 → m < 64 → g < 64 → at (link_to links g m) (64 + m) ≡ at links g
  linked_after e l i =
      get_or-set_other (set links (64 + m) (at links g)) g (64 + m) m 0 (λ p. absurd (omega arith))
      ∙ get_or-set_same links (64 + m) (at links g) 0 (rw e (omega arith))

-- the links among the nodes from m on
pub record Linking (nodes : ℕ) (h : ℕ → ℕ) (m : ℕ) (links : List ℕ) : Type 0 where
  pub first : (n : ℕ) → n < nodes → FirstFrom nodes (helps h n) m (at links n)
  pub next : (k : ℕ) → m ≤ k → k < nodes → h k ≢ k → FirstFrom nodes (helps h (h k)) (k + 1) (at links (64 + k))

-- whoever k is, its link goes on to a higher number
abbrev pub Onward : ℕ → List ℕ → Type 0
Onward nodes links = (k : ℕ) → k < nodes → k < at links (64 + k)

pub onward_none : {nodes : ℕ} → nodes ≤ 64 → Onward nodes (replicate 128 nodes)
onward_none {nodes} b k l = rw (get_or-replicate 128 (64 + k) nodes 0 (omega arith)) l

module _ {nodes : ℕ} {h : ℕ → ℕ} where
  -- before the loop, and for each way that a turn of it can go

  pub linking_none : nodes ≤ 64 → Linking nodes h nodes (replicate 128 nodes)
  linking_none b = record {
    first = λ n l. rw (get_or-replicate 128 n nodes 0 (omega arith)) (first-end nodes (helps h n));
    next = λ k c l. absurd (omega arith);
  }

  pub linking_root : {m : ℕ} {links : List ℕ} → Linking nodes h (m + 1) links → h m ≡ m → Linking nodes h m links
  linking_root {m} {links} x e = record {
    first = λ n l. first-later nodes (helps h n) m (at links n) (x.first n l) (elim (ℕ_discrete (h m) n) [
      | yes q ↦ helps_self h n m (sym e ∙ q)
      | no d ↦ helps-other h n m d
    ]);
    next = λ k b l d. x.next k (elim (ℕ_discrete k m) [
      | yes q ↦ absurd (d (rw q e))
      | no c ↦ omega arith
    ]) l d;
  }

  -- a helper has the link that its helpand had, and its helpand a link to it
  pub linking_helper : {m : ℕ} {links : List ℕ} → Linking nodes h (m + 1) links → length links ≡ 128 → nodes ≤ 64 → m < nodes
      → h m < nodes → h m ≢ m → Linking nodes h m (link_to links (h m) m)
  linking_helper {m} {links} x e b l i d = record {
    first = λ n ln. elim (ℕ_discrete n (h m)) [
      | yes q ↦ rw (q, own) (first-here nodes (helps h (h m)) m l (helps-yes h (h m) m refl (λ p. d (sym p))))
      | no c ↦
          rw (linked_other links (h m) m n c (λ p. absurd (omega arith)))
          (first-later nodes (helps h n) m (at links n) (x.first n ln) (helps-other h n m (λ p. c (sym p))))
    ];
    next = λ k c lk dk. elim (ℕ_discrete k m) [
      | yes q ↦ rw (q, linked_after links (h m) m e (omega arith) (omega arith)) (x.first (h m) i)
      | no f ↦
          rw (linked_other links (h m) m (64 + k) (λ p. absurd (omega arith)) (λ p. f (omega arith)))
          (x.next k (omega arith) lk dk)
    ];
  }
    where
      own : at (link_to links (h m) m) (h m) ≡ m
      own = get_or-set_same (set links (64 + m) (at links (h m))) (h m) m 0 (rw (length-set links (64 + m) (at links (h m)), e) (omega arith))

  pub onward_helper : {m : ℕ} {links : List ℕ} → Linking nodes h (m + 1) links → Onward nodes links → length links ≡ 128 → nodes ≤ 64
      → m < nodes → h m < nodes → Onward nodes (link_to links (h m) m)
  onward_helper {m} {links} x o e b l i k lk = elim (ℕ_discrete k m) [
    | yes q ↦ rw (q, linked_after links (h m) m e (omega arith) (omega arith)) (omega (arith, (x.first (h m) i).from_le))
    | no f ↦ rw (linked_other links (h m) m (64 + k) (λ p. absurd (omega arith)) (λ p. f (omega arith))) (o k lk)
  ]

  -- after it
  pub linked-all : {links : List ℕ} → Linking nodes h 0 links → Linked nodes h links
  linked-all x = record { first = x.first; next = λ k l d. x.next k (omega arith) l d }

-- where a loop over the helpers of n begins, and the next helper behind its helper k
module _ {nodes : ℕ} {h : ℕ → ℕ} {links : List ℕ} (x : Linked nodes h links) (n : ℕ) where
  pub link_first : {to : ℕ} → n < nodes → to ≡ at links n → FirstFrom nodes (helps h n) 0 to
  link_first l e = rw e (x.first n l)

  pub link_next : {k to : ℕ} → k < nodes → helps h n k ≡ true → to ≡ at links (64 + k) → FirstFrom nodes (helps h n) (k + 1) to
  link_next {k} l y e = rw (e, ← helps_of h n k y) (x.next k l (helper-below h n k y))

-- ---- a loop over the helpers of n: k is the next one, or the number of nodes, and each helper below k has taken its part of x

pub record Left (nodes : ℕ) (h : ℕ → ℕ) (n : ℕ) (part : ℕ → ℕ) (x left k : ℕ) : Type 0 where
  pub k_le : k ≤ nodes
  pub helper : k < nodes → helps h n k ≡ true
  pub left_is : left ≡ x - over_helpers k h n part

module _ {nodes : ℕ} {h : ℕ → ℕ} {n : ℕ} {part : ℕ → ℕ} {x left : ℕ} where
  pub left-first : {k : ℕ} → left ≡ x → FirstFrom nodes (helps h n) 0 k → Left nodes h n part x left k
  left-first e y =
      record { k_le = y.to_le; helper = y.passes; left_is = omega (arith, e, helpers_none h n part, helpers_next h n part y) }

  -- helper k takes its part: at most so much
  pub left-next : {k to rest : ℕ} → Left nodes h n part x left k → k < nodes → rest ≡ left - part k → FirstFrom nodes (helps h n) (k + 1) to
      → Left nodes h n part x rest to
  left-next {k} p l e y =
      record {
        k_le = y.to_le;
        helper = y.passes;
        left_is = omega (arith, p.left_is, e, helpers_more h n part k (p.helper l), helpers_next h n part y);
      }

  pub left-all : {k : ℕ} → Left nodes h n part x left k → nodes ≤ k → (k ≡ nodes) × (left ≡ x - over_helpers nodes h n part)
  left-all {k} p l =
      let e : k ≡ nodes = omega (arith, p.k_le) in
      (e, rw e at p.left_is)
