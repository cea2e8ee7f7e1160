-- Laws of families: who helps whom, and sums over the helpers of a node. Assumes nothing.
use mathlib.Core.Path.{◌≡◌, refl, sym, ap, ap₂, ◌∙◌}
use mathlib.Core.Logic.{◌≢◌, ◌⊎◌, inl, inr}
use mathlib.Core.Bool.{Bool, true, false, not, ◌&&◌}
use Prim.Native.Nat.{ℕ, ◌+◌, ◌-◌, ◌≤◌, ◌<◌, min}
use native.Mathlib.Decide.{ℕ_discrete}
use native.Mathlib.Omega.{arith}
use lib.Dec.{eqb}
use borrow.Author.Tests.{eqb-true, eqb-false, eq-eqb, ne_eqb, not-true}
use Rattle.fold.specs.Sum.{only, sum}
use Rattle.fold.specs.First.{FirstFrom}
use Rattle.fold.proofs.Tests.{either, and_left, and_right, and_both, only-le, only-eq, only-min, only-is, only-not}
use Rattle.fold.proofs.Sums.{sum-none, sum_more, sum-le, sum-eq, sum-add, sum-only, sum-rest, sum_in_turn}
use Rattle.plan.specs.Tree.{is_root}
use Rattle.tree.specs.Family.{helps, over_helpers}

module _ (h : ℕ → ℕ) (n k : ℕ) where
  pub helps_of : helps h n k ≡ true → h k ≡ n
  helps_of e = eqb-true (h k) n (and_left (eqb (h k) n) (not (eqb k n)) e)

  pub helps-ne : helps h n k ≡ true → k ≢ n
  helps-ne e = eqb-false k n (not-true (eqb k n) (and_right (eqb (h k) n) (not (eqb k n)) e))

  pub helps-yes : h k ≡ n → k ≢ n → helps h n k ≡ true
  helps-yes e d = and_both (eqb (h k) n) (not (eqb k n)) (eq-eqb (h k) n e) (ap not (ne_eqb k n d))

  pub helps-other : h k ≢ n → helps h n k ≡ false
  helps-other d = rw (ne_eqb (h k) n d)

  pub helps_self : k ≡ n → helps h n k ≡ false
  helps_self e = fails (eqb (h k) n) (eqb k n) (eq-eqb k n e)
    where
      fails : (a b : Bool) → b ≡ true → (a && not b) ≡ false
      fails true b q = ap not q
      fails false b q = refl

  -- a helper is no root
  pub helper-below : helps h n k ≡ true → h k ≢ k
  helper-below e q = helps-ne e (sym q ∙ helps_of e)

  pub helper_no_root : helps h n k ≡ true → is_root h k ≡ false
  helper_no_root e = ne_eqb (h k) k (helper-below e)

-- a node that is no root helps its helpand
pub helps-helpand : (h : ℕ → ℕ) (k : ℕ) → h k ≢ k → helps h (h k) k ≡ true
helps-helpand h k d = helps-yes h (h k) k refl (λ q. d (sym q))

-- ---- sums over the helpers of n

module _ (nodes : ℕ) (h : ℕ → ℕ) (n : ℕ) (f g : ℕ → ℕ) where
  pub helpers_le : ((k : ℕ) → k < nodes → helps h n k ≡ true → f k ≤ g k) → over_helpers nodes h n f ≤ over_helpers nodes h n g
  helpers_le p =
      sum-le nodes (λ k. only (helps h n k) (f k)) (λ k. only (helps h n k) (g k)) (λ k l. only-le (helps h n k) (f k) (g k) (p k l))

  pub helpers_eq : ((k : ℕ) → k < nodes → helps h n k ≡ true → f k ≡ g k) → over_helpers nodes h n f ≡ over_helpers nodes h n g
  helpers_eq p =
      sum-eq nodes (λ k. only (helps h n k) (f k)) (λ k. only (helps h n k) (g k)) (λ k l. only-eq (helps h n k) (f k) (g k) (p k l))

  pub helpers_add : over_helpers nodes h n (λ k. f k + g k) ≡ over_helpers nodes h n f + over_helpers nodes h n g
  helpers_add =
      sum-eq nodes (λ k. only (helps h n k) (f k + g k)) (λ k. only (helps h n k) (f k) + only (helps h n k) (g k))
      (λ k l. parts (helps h n k) (f k) (g k))
      ∙ sum-add nodes (λ k. only (helps h n k) (f k)) (λ k. only (helps h n k) (g k))
    where
      parts : (b : Bool) (x y : ℕ) → only b (x + y) ≡ only b x + only b y
      parts true x y = refl
      parts false x y = refl

module _ (h : ℕ → ℕ) (n : ℕ) (f : ℕ → ℕ) where
  -- from helper to helper: before the first one, from one to the next, and at a helper
  pub helpers_none : over_helpers 0 h n f ≡ 0
  helpers_none = sum-none (λ k. only (helps h n k) (f k))

  pub helpers_next : {nodes m to : ℕ} → FirstFrom nodes (helps h n) m to → over_helpers m h n f ≡ over_helpers to h n f
  helpers_next {nodes} {m} {to} x =
      sum-rest m to (λ k. only (helps h n k) (f k)) x.from_le (λ k a b. only-not (helps h n k) (f k) (x.none k a b))

  pub helpers_more : (k : ℕ) → helps h n k ≡ true → over_helpers (k + 1) h n f ≡ over_helpers k h n f + f k
  helpers_more k e = omega (arith, sum_more k (λ j. only (helps h n j) (f j)), only-is (helps h n k) (f k) e)

  -- helpers that are filled in turn, each up to its room, take all that there is room for
  pub helpers_in_turn : (m x : ℕ) → over_helpers m h n (λ k. min (x - over_helpers k h n f) (f k)) ≡ min x (over_helpers m h n f)
  helpers_in_turn m x =
      sum-eq m (λ k. only (helps h n k) (min (x - over_helpers k h n f) (f k)))
      (λ k. min (x - over_helpers k h n f) (only (helps h n k) (f k)))
      (λ k l. only-min (helps h n k) (x - over_helpers k h n f) (f k))
      ∙ sum_in_turn m (λ k. only (helps h n k) (f k)) x

  -- a sum over all nodes of which those of other families count 0
  pub family_sum : (nodes : ℕ) → n < nodes → ((k : ℕ) → k ≢ n → helps h n k ≡ false → f k ≡ 0) → sum nodes f ≡ f n + over_helpers nodes h n f
  family_sum nodes l other =
      omega (
        arith,
        sum-eq nodes f (λ k. only (eqb k n) (f k) + only (helps h n k) (f k)) (λ k b. part k),
        sum-add nodes (λ k. only (eqb k n) (f k)) (λ k. only (helps h n k) (f k)),
        sum-only nodes f n l,
      )
    where
      by : (k : ℕ) → k ≢ n → (helps h n k ≡ true) ⊎ (helps h n k ≡ false) → f k ≡ only (helps h n k) (f k)
      by k d (inl e) = sym (only-is (helps h n k) (f k) e)
      by k d (inr e) = other k d e ∙ sym (only-not (helps h n k) (f k) e)

      part : (k : ℕ) → f k ≡ only (eqb k n) (f k) + only (helps h n k) (f k)
      part k = elim (ℕ_discrete k n) [
        | yes e ↦ omega (arith, only-is (eqb k n) (f k) (eq-eqb k n e), only-not (helps h n k) (f k) (helps_self h n k e))
        | no d ↦ omega (arith, only-not (eqb k n) (f k) (ne_eqb k n d), by k d (either (helps h n k)))
      ]

-- sums over helpers look at the nodes' own helpands and amounts alone
pub helpers_agree : (nodes : ℕ) (h h' f g : ℕ → ℕ) → ((k : ℕ) → k < nodes → h k ≡ h' k) → ((k : ℕ) → k < nodes → f k ≡ g k) → (n : ℕ)
    → over_helpers nodes h n f ≡ over_helpers nodes h' n g
helpers_agree nodes h h' f g same amounts n =
    sum-eq nodes (λ k. only (helps h n k) (f k)) (λ k. only (helps h' n k) (g k))
    (λ k l. ap₂ (λ (x y : ℕ). only (eqb x n && not (eqb k n)) y) (same k l) (amounts k l))
