-- The checks of n nodes look at the first n helpands and shares alone: two functions that agree below n pass the same of them. A
-- chain stays below n, so it goes the same way in both. Assumes nothing.
use mathlib.Core.Path.{◌≡◌, ap, ap₂, ◌∙◌}
use mathlib.Core.Bool.{Bool, true, cond, ◌||◌, ◌&&◌, not}
use Prim.Native.Nat.{ℕ, zero, suc, ◌<◌}
use borrow.Author.Tests.{ltb-true}
use lib.Dec.{ltb, leb, eqb}
use Rattle.fold.specs.Sum.{only}
use Rattle.fold.proofs.Tests.{all-at, all-eq}
use Rattle.fold.proofs.Sums.{sum-eq}
use Rattle.plan.specs.Tree.{helpands_below, is_root, roots, reaches, shape_fine, share_fine, shares_fine}

module _ (n : ℕ) (f g : ℕ → ℕ) (same : (k : ℕ) → k < n → f k ≡ g k) where
  pub below_agree : helpands_below n f ≡ helpands_below n g
  below_agree = all-eq n (λ k. ltb (f k) n) (λ k. ltb (g k) n) (λ k l. ap (λ (x : ℕ). ltb x n) (same k l))

  root_agree : (k : ℕ) → k < n → is_root f k ≡ is_root g k
  root_agree k l = ap (λ (x : ℕ). eqb x k) (same k l)

  roots_agree : roots n f ≡ roots n g
  roots_agree =
      sum-eq n (λ k. only (is_root f k) 1) (λ k. only (is_root g k) 1) (λ k l. ap (λ (b : Bool). only b 1) (root_agree k l))

  module _ (below : helpands_below n f ≡ true) where
    reaches_agree : (steps k : ℕ) → k < n → reaches f steps k ≡ reaches g steps k
    unfolding reaches
    reaches_agree zero k l = root_agree k l
    reaches_agree (suc steps) k l =
        ap₂ ◌||◌ (root_agree k l)
        (reaches_agree steps (f k) (ltb-true (f k) n (all-at n (λ j. ltb (f j) n) below k l)) ∙ ap (reaches g steps) (same k l))

    pub shape_agree : (kind : ℕ) → shape_fine n kind f ≡ shape_fine n kind g
    shape_agree kind =
        ap₂ (cond (eqb kind 0)) (all-eq n (is_root f) (is_root g) root_agree)
        (ap₂ (λ (x : ℕ) (b : Bool). eqb x 1 && b) roots_agree (all-eq n (reaches f n) (reaches g n) (reaches_agree n)))

  pub shares_agree : (limit : ℕ) (x y : ℕ → ℕ) → ((k : ℕ) → k < n → x k ≡ y k) → shares_fine n limit f x ≡ shares_fine n limit g y
  shares_agree limit x y e =
      all-eq n (share_fine limit f x) (share_fine limit g y)
      (λ k l. ap₂ (λ (b : Bool) (z : ℕ). leb z limit && (not b || eqb z 0)) (root_agree k l) (e k l))
