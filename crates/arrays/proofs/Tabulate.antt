-- Laws of `tabulate`, an array of 64 with f k at each node k and zeros behind them: its entries, and that it is known by them.
-- Assumes nothing.
use mathlib.Core.Path.{◌≡◌, refl, sym, ap, ◌∙◌}
use mathlib.Core.List.{List, [], ◌∷◌}
use Prim.Native.Nat.{ℕ, zero, suc, ◌+◌, ◌-◌, ◌≤◌, ◌<◌}
use native.Mathlib.Decide.{ℕ_discrete, dec_lt}
use native.Mathlib.Omega.{arith}
use lib.Dec.{leb}
use lib.ListN.{length, get_or, set, take, replicate, length-append, length-replicate, get_or-append, get_or-eq_default}
use lib.Seq.{ext_get_or, get_or-append_seam, get_or-set_same, get_or-set_other, take_at}
use Rattle.fold.specs.All.{all}
use Rattle.fold.specs.Collect.{collect}
use Rattle.fold.proofs.Lists.{collect-eq, collect_more}
use Rattle.fold.proofs.Tests.{all-eq}
use Rattle.arrays.specs.Arrays.{at, padded, tabulate}
use Rattle.arrays.proofs.Padded.{padded-at, padded-same, padded_more}

module _ (f : ℕ → ℕ) where
  -- the list of the first values, without the zeros
  abbrev row : ℕ → List ℕ
  row nodes = collect nodes (λ k. f k ∷ [])

  pub length-row : (nodes : ℕ) → length (collect nodes (λ k. f k ∷ [])) ≡ nodes
  unfolding collect
  length-row zero = refl
  length-row (suc nodes) = length-append (row nodes) (f nodes ∷ []) ∙ omega (arith, length-row nodes)

  pub row_at : (nodes k : ℕ) → k < nodes → get_or (row nodes) k 0 ≡ f k
  unfolding collect
  row_at zero k l = absurd (omega arith)
  row_at (suc nodes) k l = elim (ℕ_discrete k nodes) [
    | yes e ↦ rw (e ∙ sym (length-row nodes)) (get_or-append_seam (row nodes) (f nodes) [] 0) ∙ sym (ap f e)
    | no d ↦ get_or-append (row nodes) (f nodes ∷ []) 0 k (omega (arith, length-row nodes)) ∙ row_at nodes k (omega arith)
  ]

module _ (nodes : ℕ) (f : ℕ → ℕ) where
  pub tabulate-at : (k : ℕ) → k < nodes → at (tabulate nodes f) k ≡ f k
  unfolding tabulate
  tabulate-at k l = padded-at (row f nodes) k ∙ row_at f nodes k l

  pub tabulate-behind : (k : ℕ) → nodes ≤ k → at (tabulate nodes f) k ≡ 0
  unfolding tabulate
  tabulate-behind k l = padded-at (row f nodes) k ∙ get_or-eq_default (row f nodes) 0 (omega (arith, length-row f nodes))

  pub length-tabulate : nodes ≤ 64 → length (tabulate nodes f) ≡ 64
  unfolding tabulate
  length-tabulate l = length-append (row f nodes) _ ∙ simp length-replicate (omega (arith, length-row f nodes))

  -- there is a place for each node, however many there are
  pub tabulate-long : nodes ≤ length (tabulate nodes f)
  unfolding tabulate
  tabulate-long = rw (length-append (row f nodes) (replicate (64 - length (row f nodes)) 0)) (omega (arith, length-row f nodes))

  -- the entries of the nodes alone
  pub take-tabulate : take nodes (tabulate nodes f) ≡ collect nodes (λ k. f k ∷ [])
  unfolding tabulate
  take-tabulate = take_at (row f nodes) (replicate (64 - length (row f nodes)) 0) nodes (length-row f nodes)

  -- and nothing else stands behind them
  pub take-at-tabulate : at (take nodes (tabulate nodes f)) ≡ at (tabulate nodes f)
  unfolding tabulate
  take-at-tabulate = ap at take-tabulate ∙ sym (padded-same (row f nodes))

  -- an array of 64 with these entries is this one
  pub tabulate-is : nodes ≤ 64 → (xs : List ℕ) → length xs ≡ 64 → ((k : ℕ) → k < nodes → at xs k ≡ f k)
      → ((k : ℕ) → nodes ≤ k → at xs k ≡ 0) → xs ≡ tabulate nodes f
  tabulate-is l xs e p q = ext_get_or 0 xs (tabulate nodes f) (e ∙ sym (length-tabulate l)) each
    where
      each : (k : ℕ) → k < length xs → at xs k ≡ at (tabulate nodes f) k
      each k b = elim (dec_lt k nodes) [
        | yes i ↦ p k i ∙ sym (tabulate-at k i)
        | no d ↦ q k (omega (arith, d)) ∙ sym (tabulate-behind k (omega (arith, d)))
      ]

pub tabulate-eq : (nodes : ℕ) (f g : ℕ → ℕ) → ((k : ℕ) → k < nodes → f k ≡ g k) → tabulate nodes f ≡ tabulate nodes g
unfolding tabulate
tabulate-eq nodes f g e = ap padded (collect-eq nodes (λ k. f k ∷ []) (λ k. g k ∷ []) (λ k l. ap (λ (x : ℕ). x ∷ []) (e k l)))

-- a test of a tabulated array against a bound is the test of what was tabulated
pub tabulate-within : (nodes : ℕ) (f : ℕ → ℕ) (bound : ℕ)
    → all nodes (λ k. leb (at (tabulate nodes f) k) bound) ≡ all nodes (λ k. leb (f k) bound)
tabulate-within nodes f bound =
    all-eq nodes (λ k. leb (at (tabulate nodes f) k) bound) (λ k. leb (f k) bound)
    (λ k l. ap (λ (x : ℕ). leb x bound) (tabulate-at nodes f k l))

-- ---- a loop that fills an array from the front

pub tabulate-none : (f : ℕ → ℕ) → tabulate 0 f ≡ replicate 64 0
unfolding tabulate collect
tabulate-none f = refl

pub tabulate_more : (f : ℕ → ℕ) (k : ℕ) → k < 64 → set (tabulate k f) k (f k) ≡ tabulate (k + 1) f
unfolding tabulate
tabulate_more f k l =
    ap (λ (j : ℕ). set (padded (row f k)) j (f k)) (sym (length-row f k))
    ∙ padded_more (row f k) (f k) (omega (arith, length-row f k))
    ∙ ap padded (sym (collect_more k (λ j. f j ∷ [])))

-- the same of an array that is so much filled, with the value that was worked out
pub tabulate-next : (f : ℕ → ℕ) (k v : ℕ) (xs : List ℕ) → k < 64 → xs ≡ tabulate k f → v ≡ f k → set xs k v ≡ tabulate (k + 1) f
tabulate-next f k v xs l e q = rw (e, q) (tabulate_more f k l)

-- ---- a loop that changes an array from the front: entry n is stored next

module _ (xs : List ℕ) (n v : ℕ) where
  pub stored-below : (f : ℕ → ℕ) → n < length xs → v ≡ f n → ((k : ℕ) → k < n → at xs k ≡ f k)
      → (k : ℕ) → k < n + 1 → at (set xs n v) k ≡ f k
  stored-below f l e p k b = elim (ℕ_discrete k n) [
    | yes q ↦ rw q (get_or-set_same xs n v 0 l ∙ e)
    | no d ↦ get_or-set_other xs n k v 0 d ∙ p k (omega arith)
  ]

  pub stored-behind : (f : ℕ → ℕ) → ((k : ℕ) → n ≤ k → at xs k ≡ f k) → (k : ℕ) → n + 1 ≤ k → at (set xs n v) k ≡ f k
  stored-behind f p k b = get_or-set_other xs n k v 0 (λ e. omega arith) ∙ p k (omega arith)

-- an array of any length that is filled from the front: one entry more
pub filled_more : (f : ℕ → ℕ) (xs : List ℕ) (n v : ℕ) → n < length xs → v ≡ f n → ((k : ℕ) → k < n → at xs k ≡ f k)
    → (k : ℕ) → k < n + 1 → at (set xs n v) k ≡ f k
filled_more f xs n v = stored-below xs n v f
