-- Laws of the sum of two tables: its cells, its sum, that the order does not matter, of three tables neither, and that a table without
-- counts adds nothing. Assumes nothing.
use mathlib.Core.Path.{◌≡◌, refl, sym, ap, ap₂, ◌∙◌}
use mathlib.Core.List.{List, [], ◌∷◌}
use Prim.Native.Nat.{ℕ, zero, suc, ◌+◌}
use native.Mathlib.Omega.{arith}
use lib.ListN.{length}
use lib.Seq.{ext_get_or}
use Rattle.fold.specs.Sum.{sum}
use Rattle.fold.proofs.Sums.{sum-eq, sum-add}
use Rattle.limit.specs.Limit.{table_size}
use Rattle.arrays.specs.Arrays.{at}
use Rattle.inlet.specs.Join.{sum_of}

-- ---- lists of one length

lengths : (a b : List ℕ) → length a ≡ length b → length (sum_of a b) ≡ length a
unfolding sum_of
lengths [] b e = refl
lengths (x ∷ a) [] e = absurd (omega arith)
lengths (x ∷ a) (y ∷ b) e = ap suc (lengths a b (omega arith))

cells : (a b : List ℕ) → length a ≡ length b → (c : ℕ) → at (sum_of a b) c ≡ at a c + at b c
unfolding sum_of
cells [] [] e c = refl
cells [] (y ∷ b) e c = absurd (omega arith)
cells (x ∷ a) [] e c = absurd (omega arith)
cells (x ∷ a) (y ∷ b) e zero = refl
cells (x ∷ a) (y ∷ b) e (suc c) = cells a b (omega arith) c

-- THEOREM. The order of the tables does not matter.
pub added_order : (a b : List ℕ) → sum_of a b ≡ sum_of b a
unfolding sum_of
added_order [] [] = refl
added_order [] (y ∷ b) = refl
added_order (x ∷ a) [] = refl
added_order (x ∷ a) (y ∷ b) = ap₂ (λ (z : ℕ) (zs : List ℕ). z ∷ zs) (omega arith) (added_order a b)

-- THEOREM. Of three, it does not matter which two are added first.
pub added_three : (a b c : List ℕ) → sum_of (sum_of a b) c ≡ sum_of a (sum_of b c)
unfolding sum_of
added_three [] b c = refl
added_three (x ∷ a) [] c = refl
added_three (x ∷ a) (y ∷ b) [] = refl
added_three (x ∷ a) (y ∷ b) (z ∷ c) = ap₂ (λ (w : ℕ) (ws : List ℕ). w ∷ ws) (omega arith) (added_three a b c)

-- ---- tables

module _ (a b : List ℕ) (first : length a ≡ table_size) (second : length b ≡ table_size) where
  pub length-added : length (sum_of a b) ≡ table_size
  length-added = lengths a b (first ∙ sym second) ∙ first

  -- THEOREM. Each cell of the sum is the sum of the two cells, behind the end too.
  pub added-at : (c : ℕ) → at (sum_of a b) c ≡ at a c + at b c
  added-at = cells a b (first ∙ sym second)

  -- a table with these cells is the sum
  pub added_is : (table : List ℕ) → length table ≡ table_size → ((c : ℕ) → at table c ≡ at a c + at b c) → table ≡ sum_of a b
  added_is table size is = ext_get_or 0 table (sum_of a b) (size ∙ sym length-added) (λ c l. is c ∙ sym (added-at c))

  -- THEOREM. The counts of the sum add up to those of both tables.
  pub added-total : sum table_size (at (sum_of a b)) ≡ sum table_size (at a) + sum table_size (at b)
  added-total = sum-eq table_size (at (sum_of a b)) (λ c. at a c + at b c) (λ c l. added-at c) ∙ sum-add table_size (at a) (at b)

  -- THEOREM. A table without counts adds nothing.
  pub added_none : ((c : ℕ) → at b c ≡ 0) → sum_of a b ≡ a
  added_none none = sym (added_is a first (λ c. omega (arith, none c)))
