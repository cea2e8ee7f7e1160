-- Trees of helpands, for every n: one root that every chain reaches is a tree, and a tree passes the checks of its shape. A chain
-- that reaches a root stays there, so after n steps it stands at a root, and there is but one. Assumes nothing.
use mathlib.Core.Path.{◌≡◌, refl, sym, ap, ◌∙◌}
use mathlib.Core.Logic.{◌≢◌, ◌⊎◌, inl, inr}
use mathlib.Core.Bool.{Bool, true, false, not, ◌||◌, or-true}
use Prim.Native.Nat.{ℕ, zero, suc, ◌<◌}
use native.Mathlib.Decide.{ℕ_discrete}
use native.Mathlib.Omega.{arith}
use borrow.Author.Tests.{ltb-true, lt-ltb, eqb-true, eq-eqb, ne_eqb}
use lib.Dec.{ltb, eqb}
use Rattle.fold.specs.Sum.{only}
use Rattle.fold.specs.All.{all}
use Rattle.fold.proofs.Tests.{either, and_left, and_right, and_both, only-is, only-not, only-max, all-at, all_of}
use Rattle.fold.proofs.Sums.{sum-eq, sum-zero, sum_const, sum_term, sum_skip, sum-only, sum_lt, sum_ones}
use Rattle.plan.specs.Tree.{helpands_below, is_root, roots, reaches, shape_fine, walk, Tree}

-- ---- chains

module _ (h : ℕ → ℕ) where
  -- no step, one step more in front, and one more at the end
  pub walk_none : (k : ℕ) → walk h 0 k ≡ k
  unfolding walk
  walk_none k = refl

  pub walk_more : (j k : ℕ) → walk h (suc j) k ≡ walk h j (h k)
  unfolding walk
  walk_more j k = refl

  pub walk-suc : (j k : ℕ) → walk h (suc j) k ≡ h (walk h j k)
  unfolding walk
  walk-suc zero k = refl
  walk-suc (suc j) k = walk-suc j (h k)

  -- a chain stays at a root
  pub walk-own : (r : ℕ) → h r ≡ r → (j : ℕ) → walk h j r ≡ r
  unfolding walk
  walk-own r e zero = refl
  walk-own r e (suc j) = rw e (walk-own r e j)

  pub walk_inside : (n : ℕ) → ((k : ℕ) → k < n → h k < n) → (j k : ℕ) → k < n → walk h j k < n
  unfolding walk
  walk_inside n i zero k l = l
  walk_inside n i (suc j) k l = walk_inside n i j (h k) (i k l)

  -- a chain that reaches a root in so many steps stands at one then
  pub reaches-walk : (j k : ℕ) → reaches h j k ≡ true → h (walk h j k) ≡ walk h j k
  unfolding walk reaches
  reaches-walk zero k e = eqb-true (h k) k e
  reaches-walk (suc j) k e = elim (ℕ_discrete (h k) k) [
    | yes o ↦ rw (o, walk-own k o j) o
    | no d ↦ reaches-walk j (h k) (ap (λ (b : Bool). b || reaches h j (h k)) (sym (ne_eqb (h k) k d)) ∙ e)
  ]

  pub walk-reaches : (j k : ℕ) → h (walk h j k) ≡ walk h j k → reaches h j k ≡ true
  unfolding walk reaches
  walk-reaches zero k e = eq-eqb (h k) k e
  walk-reaches (suc j) k e = rw (walk-reaches j (h k) e, or-true)

-- ---- roots alone

module _ (n : ℕ) (h : ℕ → ℕ) where
  pub roots-all : roots n h ≡ n → all n (is_root h) ≡ true
  roots-all e = all_of n (is_root h) (λ k l. root k l (either (is_root h k)))
    where
      root : (k : ℕ) → k < n → (is_root h k ≡ true) ⊎ (is_root h k ≡ false) → is_root h k ≡ true
      root k l (inl t) = t
      root k l (inr f) = absurd (omega (arith, sum_ones n (is_root h) k l f))

  pub roots-not-all : roots n h ≢ n → all n (is_root h) ≡ false
  roots-not-all d = by (either (all n (is_root h)))
    where
      by : (all n (is_root h) ≡ true) ⊎ (all n (is_root h) ≡ false) → all n (is_root h) ≡ false
      by (inr f) = f
      by (inl t) =
          let ones = sum-eq n (λ k. only (is_root h k) 1) (λ k. 1) (λ k l. only-is (is_root h k) 1 (all-at n (is_root h) t k l)) in
          absurd (d (omega (arith, ones, sum_const n 1)))

-- ---- one root

module _ (n : ℕ) (h : ℕ → ℕ) (one : roots n h ≡ 1) where
  pub root-some : (r : ℕ) × (r < n) × (h r ≡ r)
  root-some = found (sum_lt n (λ k. 0) (λ k. only (is_root h k) 1) (omega (arith, sum-zero n)))
    where
      found : (k : ℕ) × (k < n) × (0 < only (is_root h k) 1) → (r : ℕ) × (r < n) × (h r ≡ r)
      found w = elim (ℕ_discrete (h w.0) w.0) [
        | yes e ↦ (w.0, w.1, e)
        | no d ↦ absurd (omega (arith, w.2, only-not (is_root h w.0) 1 (ne_eqb (h w.0) w.0 d)))
      ]

  -- a second one would be counted too
  pub root-same : (i j : ℕ) → i < n → j < n → h i ≡ i → h j ≡ j → i ≡ j
  root-same i j li lj ei ej = elim (ℕ_discrete j i) [
    | yes e ↦ sym e
    | no d ↦ absurd (omega (
      arith,
      sum_skip n mark other i li (only-not (not (eqb i i)) (mark i) (ap not (eq-eqb i i refl))) (λ k l. only-max (not (eqb k i)) (mark k)),
      sum_term n other j lj,
      only-is (not (eqb j i)) (mark j) (ap not (ne_eqb j i d)),
      only-is (is_root h i) 1 (eq-eqb (h i) i ei),
      only-is (is_root h j) 1 (eq-eqb (h j) j ej),
    ))
  ]
    where
      mark : ℕ → ℕ
      mark k = only (is_root h k) 1

      other : ℕ → ℕ
      other k = only (not (eqb k i)) (mark k)

-- ---- trees

pub tree_of : (n : ℕ) (h : ℕ → ℕ) → helpands_below n h ≡ true → roots n h ≡ 1 → all n (reaches h n) ≡ true → (r : ℕ) × Tree n h r
tree_of n h b o a =
    let w = root-some n h o in
    let inside : (k : ℕ) → k < n → h k < n = λ k l. ltb-true (h k) n (all-at n (λ j. ltb (h j) n) b k l) in (
      w.0,
      record {
        root = w.1;
        own = w.2;
        inside = inside;
        reach = λ k l.
            root-same n h o (walk h n k) w.0 (walk_inside h n inside n k l) w.1
            (reaches-walk h n k (all-at n (reaches h n) a k l)) w.2;
      },
    )

module _ {n : ℕ} {h : ℕ → ℕ} {r : ℕ} (t : Tree n h r) where
  -- no other node helps itself
  pub tree-alone : (k : ℕ) → k < n → h k ≡ k → k ≡ r
  tree-alone k l e = sym (walk-own h k e n) ∙ t.reach k l

  pub tree-below : helpands_below n h ≡ true
  tree-below = all_of n (λ k. ltb (h k) n) (λ k l. lt-ltb (h k) n (t.inside k l))

  pub tree-reaches : all n (reaches h n) ≡ true
  tree-reaches = all_of n (reaches h n) (λ k l. walk-reaches h n k (rw (t.reach k l) t.own))

  pub tree-roots : roots n h ≡ 1
  tree-roots =
      sum-eq n (λ k. only (is_root h k) 1) (λ k. only (eqb k r) 1) (λ k l. ap (λ (b : Bool). only b 1) (same k l))
      ∙ sum-only n (λ k. 1) r t.root
    where
      same : (k : ℕ) → k < n → is_root h k ≡ eqb k r
      same k l = elim (ℕ_discrete k r) [
        | yes e ↦ eq-eqb (h k) k (rw e t.own) ∙ sym (eq-eqb k r e)
        | no d ↦ ne_eqb (h k) k (λ e. d (tree-alone k l e)) ∙ sym (ne_eqb k r d)
      ]

  -- the shape of kinds 1 and 2
  pub tree_shape : (kind : ℕ) → kind ≢ 0 → shape_fine n kind h ≡ true
  tree_shape kind d = rw (ne_eqb kind 0 d) (and_both _ _ (eq-eqb (roots n h) 1 tree-roots) tree-reaches)

pub shape-tree : (n kind : ℕ) (h : ℕ → ℕ) → kind ≢ 0 → helpands_below n h ≡ true → shape_fine n kind h ≡ true → (r : ℕ) × Tree n h r
shape-tree n kind h d b e =
    let f = rw (ne_eqb kind 0 d) at e in
    tree_of n h b (eqb-true (roots n h) 1 (and_left _ _ f)) (and_right (eqb (roots n h) 1) _ f)
