-- Laws of due amounts: the owner's, a helper's and any other node's, and that they add up to the subdomain's total. Assumes nothing.
use mathlib.Core.Path.{◌≡◌, sym, ◌∙◌}
use mathlib.Core.Logic.{◌≢◌}
use mathlib.Core.Bool.{false}
use mathlib.Core.List.{List}
use Prim.Native.Nat.{ℕ, ◌+◌, ◌-◌, ◌≤◌, ◌<◌}
use native.Mathlib.Decide.{ℕ_discrete}
use native.Mathlib.Omega.{arith}
use lib.Dec.{eqb}
use lib.ListN.{length, set}
use lib.Seq.{get_or-set_same, get_or-set_other}
use borrow.Author.Tests.{eq-eqb, ne_eqb}
use Rattle.fold.specs.Sum.{only, sum}
use Rattle.fold.proofs.Tests.{only-is, only-not}
use Rattle.fold.proofs.Sums.{sum_more, sum-eq, sum-add, sum-only, sum-split}
use Rattle.arrays.specs.Arrays.{at}
use Rattle.tree.specs.Family.{helps, over_helpers}
use Rattle.tree.proofs.Families.{helps-yes, helps-other, helps_self}
use Rattle.transfer.specs.Due.{due_with, due_of}

module _ (h share : ℕ → ℕ) (own n k : ℕ) where
  pub due-owner : k ≡ n → due_with h share own n k ≡ own
  unfolding due_with
  due-owner e = rw (helps_self h n k e, eq-eqb k n e)

  pub due-helper : k ≢ n → h k ≡ n → due_with h share own n k ≡ share k
  unfolding due_with
  due-helper d e = rw (helps-yes h n k e d)

  pub due-other : k ≢ n → h k ≢ n → due_with h share own n k ≡ 0
  unfolding due_with
  due-other d f = rw (helps-other h n k f, ne_eqb k n d)

  -- a helper's part, or the owner's
  pub due-parts : due_with h share own n k ≡ only (helps h n k) (share k) + only (eqb k n) own
  due-parts = elim (ℕ_discrete k n) [
    | yes e ↦ omega (arith, due-owner e, only-not (helps h n k) (share k) (helps_self h n k e), only-is (eqb k n) own (eq-eqb k n e))
    | no d ↦ elim (ℕ_discrete (h k) n) [
      | yes e ↦ omega (arith, due-helper d e, only-is (helps h n k) (share k) (helps-yes h n k e d), only-not (eqb k n) own (ne_eqb k n d))
      | no f ↦ omega (arith, due-other d f, only-not (helps h n k) (share k) (helps-other h n k f), only-not (eqb k n) own (ne_eqb k n d))
    ]
  ]

pub due-sum : (nodes : ℕ) (h total share : ℕ → ℕ) (n : ℕ) → n < nodes → over_helpers nodes h n share ≤ total n
    → sum nodes (due_of nodes h total share n) ≡ total n
due-sum nodes h total share n l e =
    let own = total n - over_helpers nodes h n share in
    omega (
      arith,
      sum-eq nodes (due_with h share own n) (λ k. only (helps h n k) (share k) + only (eqb k n) own) (λ k b. due-parts h share own n k),
      sum-add nodes (λ k. only (helps h n k) (share k)) (λ k. only (eqb k n) own),
      sum-only nodes (λ k. own) n l,
    )

-- ---- one more node in a sum over helpers

module _ (h share : ℕ → ℕ) (k : ℕ) where
  -- it helps g
  helpers_one : (g : ℕ) → h k ≡ g → g ≢ k → over_helpers (k + 1) h g share ≡ over_helpers k h g share + share k
  helpers_one g e d =
      omega (arith, sum_more k (λ j. only (helps h g j) (share j)), only-is (helps h g k) (share k) (helps-yes h g k e (λ q. d (sym q))))

  -- and nobody else
  helpers_none : (n : ℕ) → helps h n k ≡ false → over_helpers (k + 1) h n share ≡ over_helpers k h n share
  helpers_none n e = omega (arith, sum_more k (λ j. only (helps h n j) (share j)), only-not (helps h n k) (share k) e)

  -- a root helps nobody
  pub helpers_root : h k ≡ k → (n : ℕ) → over_helpers (k + 1) h n share ≡ over_helpers k h n share
  helpers_root e n = elim (ℕ_discrete k n) [
    | yes q ↦ helpers_none n (helps_self h n k q)
    | no d ↦ helpers_none n (helps-other h n k (λ q. d (sym e ∙ q)))
  ]

  -- the sum over the first helpers leaves room for one more
  pub helpers_up : (g nodes : ℕ) → h k ≡ g → g ≢ k → k < nodes → over_helpers k h g share + share k ≤ over_helpers nodes h g share
  helpers_up g nodes e d l =
      let r : k + 1 + (nodes - (k + 1)) ≡ nodes = omega arith in
      let f : ℕ → ℕ = λ j. only (helps h g j) (share j) in
      omega (arith, rw r at (sum-split (k + 1) (nodes - (k + 1)) f), helpers_one g e d)

  -- a share that is taken off what is left for the owner
  pub off : (own : List ℕ) (g : ℕ) → h k ≡ g → g ≢ k → g < length own → share k ≤ at own g
      → (n : ℕ) → at (set own g (at own g - share k)) n + over_helpers (k + 1) h n share ≡ at own n + over_helpers k h n share
  off own g e d l b n = elim (ℕ_discrete n g) [
    | yes q ↦ rw q (omega (arith, get_or-set_same own g (at own g - share k) 0 l, helpers_one g e d))
    | no q ↦ omega (arith, get_or-set_other own g n (at own g - share k) 0 q, helpers_none n (helps-other h n k (λ z. q (sym z ∙ e))))
  ]
