-- Laws of shares: one for each way that the test of a node's share can go, and what passes for all nodes. Assumes nothing.
use mathlib.Core.Path.{◌≡◌, sym, ap, ◌∙◌}
use mathlib.Core.Bool.{Bool, true, false, not, ◌||◌, and-false}
use Prim.Native.Nat.{ℕ, ◌≤◌, ◌<◌}
use native.Mathlib.Decide.{ℕ_discrete}
use borrow.Author.Tests.{leb-true, lt-leb, le-leb, eqb-true, eq-eqb, ne_eqb}
use lib.Dec.{leb, eqb}
use Rattle.fold.proofs.Tests.{and_left, and_right, all-at, all_of}
use Rattle.plan.specs.Tree.{is_root, share_fine, shares_fine}

module _ (limit : ℕ) (h share : ℕ → ℕ) (k : ℕ) where
  pub share-over : limit < share k → share_fine limit h share k ≡ false
  share-over l = rw (lt-leb (share k) limit l)

  -- a root with a share
  pub share-root : h k ≡ k → (share k ≡ 0 → ⊥) → share_fine limit h share k ≡ false
  share-root e d = rw (eq-eqb (h k) k e, ne_eqb (share k) 0 d, and-false)

  pub share_fine_lem : share k ≤ limit → (h k ≡ k → share k ≡ 0) → share_fine limit h share k ≡ true
  share_fine_lem l f = elim (ℕ_discrete (h k) k) [
    | yes e ↦ rw (le-leb (share k) limit l, eq-eqb (h k) k e, eq-eqb (share k) 0 (f e))
    | no d ↦ rw (le-leb (share k) limit l, ne_eqb (h k) k d)
  ]

-- ---- all shares

pub shares_fine_lem : (n limit : ℕ) (h share : ℕ → ℕ) → ((k : ℕ) → k < n → share k ≤ limit) → ((k : ℕ) → k < n → h k ≡ k → share k ≡ 0)
    → shares_fine n limit h share ≡ true
shares_fine_lem n limit h share l z = all_of n (share_fine limit h share) (λ k b. share_fine_lem limit h share k (l k b) (z k b))

module _ (n limit : ℕ) (h share : ℕ → ℕ) (e : shares_fine n limit h share ≡ true) (k : ℕ) (b : k < n) where
  fine : share_fine limit h share k ≡ true
  fine = all-at n (share_fine limit h share) e k b

  pub share-limit : share k ≤ limit
  share-limit = leb-true (share k) limit (and_left (leb (share k) limit) (not (is_root h k) || eqb (share k) 0) fine)

  pub share-zero : h k ≡ k → share k ≡ 0
  share-zero r =
      eqb-true (share k) 0
      (ap (λ (t : Bool). not t || eqb (share k) 0) (sym (eq-eqb (h k) k r))
      ∙ and_right (leb (share k) limit) (not (is_root h k) || eqb (share k) 0) fine)
