-- A rule of a list's entries by their places: one test that is computed over the whole list, entry after entry, and the law that makes of
-- it the rule at each entry. Assumes nothing.
use mathlib.Core.Path.{◌≡◌, ◌∙◌, ap}
use mathlib.Core.Bool.{Bool, true, ◌&&◌}
use mathlib.Core.List.{List, [], ◌∷◌}
use Prim.Native.Nat.{ℕ, zero, suc, ◌+◌, ◌<◌}
use native.Mathlib.Omega.{arith}
use borrow.Author.Tests.{eqb-true}
use lib.Dec.{eqb}
use lib.ListN.{length}
use Rattle.arrays.specs.Arrays.{at}
use Rattle.fold.proofs.Tests.{and_left, and_right}

module _ (f : ℕ → ℕ) where
  -- each entry is what f gives for its place, counted from i
  abbrev pub lists : ℕ → List ℕ → Bool
  lists i [] = true
  lists i (x ∷ xs) = eqb x (f i) && lists (suc i) xs

  from : (xs : List ℕ) (i : ℕ) → lists i xs ≡ true → (k : ℕ) → k < length xs → at xs k ≡ f (i + k)
  from [] i e k h = absurd (omega arith)
  from (x ∷ xs) i e zero h = eqb-true x (f i) (and_left (eqb x (f i)) (lists (suc i) xs) e) ∙ ap f (omega arith)
  from (x ∷ xs) i e (suc k) h = from xs (suc i) (and_right (eqb x (f i)) (lists (suc i) xs) e) k (omega arith) ∙ ap f (omega arith)

  -- THEOREM. A list that passes the test has at each place what f gives for it.
  pub listed : (xs : List ℕ) → lists 0 xs ≡ true → (k : ℕ) → k < length xs → at xs k ≡ f k
  listed xs e k h = from xs 0 e k h ∙ ap f (omega arith)
