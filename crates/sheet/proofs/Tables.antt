-- The table of a sheet: each entry is the count that the sheet gives that cell, 0 for absent cells, and all entries add up to P.
-- Assumes nothing.
use mathlib.Core.Path.{◌≡◌, refl, sym, ap, ◌∙◌}
use mathlib.Core.Logic.{◌≢◌}
use mathlib.Core.List.{List, [], ◌∷◌}
use mathlib.Core.Bool.{Bool, true, false, true≢false}
use Prim.Native.Nat.{ℕ, zero, suc, ◌+◌, ◌≤◌, ◌<◌}
use native.Mathlib.Nat.{add-zero, zero-add}
use native.Mathlib.Decide.{ℕ_discrete, dec_lt}
use native.Mathlib.Omega.{arith}
use borrow.Author.Tests.{eq-eqb, ne_eqb}
use lib.ListN.{length, get_or, set, length-set, replicate, get_or-eq_default}
use lib.Seq.{get_or-set_same, get_or-set_other, ext_get_or}
use Rattle.fold.specs.Sum.{sum, total}
use Rattle.fold.specs.Rising.{rising}
use Rattle.fold.proofs.Sums.{sum-set, sum_zeros}
use Rattle.fold.proofs.Lists.{rises, rising-at}
use Rattle.arrays.specs.Arrays.{at}
use Rattle.arrays.proofs.Padded.{zeros-at}
use Rattle.limit.specs.Limit.{max_total, table_size}
use Rattle.words.specs.Words.{words}
use Rattle.words.proofs.Words.{length-words, length_part, part_at}
use Rattle.sheet.specs.declared.SheetAnswer.{SheetAnswer}
use Rattle.sheet.specs.Sheet.{cells_of, counts_of, cell_fine}
use Rattle.sheet.specs.Table.{count_at, counts_from, table_of}
use Rattle.sheet.specs.Inner.{Unpackable}
use Rattle.sheet.proofs.Laws.{cell_below, cell-beyond}
use Rattle.sheet.proofs.Accepted.{Accepted, cells_are, counts_are, sheet_unpackable}

-- ---- the count beside a cell

pub count-here : (x k : ℕ) (xs ks : List ℕ) (c : ℕ) → x ≡ c → count_at (x ∷ xs) (k ∷ ks) c ≡ k
unfolding count_at
count-here x k xs ks c e = rw (eq-eqb x c e)

pub count-other : (x k : ℕ) (xs ks : List ℕ) (c : ℕ) → x ≢ c → count_at (x ∷ xs) (k ∷ ks) c ≡ count_at xs ks c
unfolding count_at
count-other x k xs ks c d = rw (ne_eqb x c d)

-- a cell below all others is absent
pub count-below : (ok : ℕ → Bool) (low : ℕ) (xs ks : List ℕ) (c : ℕ) → rising ok low xs ≡ true → c < low → count_at xs ks c ≡ 0
count-below ok low [] ks c e h = unfold count_at in refl
count-below ok low (x ∷ xs) [] c e h = unfold count_at in refl
count-below ok low (x ∷ xs) (k ∷ ks) c e h =
    let r = rises ok low x xs e in
    count-other x k xs ks c (λ q. omega (arith, r.above)) ∙ count-below ok (x + 1) xs ks c r.rest (omega (arith, r.above))

-- a cell that does not pass is absent
pub count_absent : (ok : ℕ → Bool) (low : ℕ) (xs ks : List ℕ) (c : ℕ) → rising ok low xs ≡ true → ok c ≡ false → count_at xs ks c ≡ 0
count_absent ok low [] ks c e f = unfold count_at in refl
count_absent ok low (x ∷ xs) [] c e f = unfold count_at in refl
count_absent ok low (x ∷ xs) (k ∷ ks) c e f =
    let r = rises ok low x xs e in
    count-other x k xs ks c (λ q. true≢false (sym r.passes ∙ ap ok q ∙ f)) ∙ count_absent ok (x + 1) xs ks c r.rest f

-- ---- so many counts, one after the other

pub length_from : (xs ks : List ℕ) (c n : ℕ) → length (counts_from xs ks c n) ≡ n
unfolding counts_from
length_from xs ks c zero = refl
length_from xs ks c (suc n) = ap suc (length_from xs ks (c + 1) n)

pub from_at : (xs ks : List ℕ) (c n i : ℕ) → i < n → get_or (counts_from xs ks c n) i 0 ≡ count_at xs ks (c + i)
unfolding counts_from
from_at xs ks c zero i l = absurd (omega arith)
from_at xs ks c (suc n) zero l = rw (add-zero c)
from_at xs ks c (suc n) (suc i) l =
    let e : c + suc i ≡ c + 1 + i = omega arith in
    rw e (from_at xs ks (c + 1) n i (omega arith))

-- ---- the loop that unpacks: counts stored at their cells, one by one

-- a table with each of the counts stored at its cell
unfoldable pub stored : List ℕ → List ℕ → List ℕ → List ℕ
stored table [] counts = table
stored table (c ∷ cells) [] = table
stored table (c ∷ cells) (k ∷ counts) = stored (set table c k) cells counts

unfoldable pub zeros : List ℕ
zeros = replicate table_size 0

pub length-stored : (table xs ks : List ℕ) → length (stored table xs ks) ≡ length table
unfolding stored
length-stored table [] ks = refl
length-stored table (x ∷ xs) [] = refl
length-stored table (x ∷ xs) (k ∷ ks) = length-stored (set table x k) xs ks ∙ length-set table x k

module _ (n : ℕ) (nodes : n ≤ 64) where
  -- the table is free from low on
  abbrev Free : ℕ → List ℕ → Type 0
  Free low table = (c : ℕ) → low ≤ c → get_or table c 0 ≡ 0

  free_set : (low x k : ℕ) (table : List ℕ) → Free low table → low ≤ x → Free (x + 1) (set table x k)
  free_set low x k table f h c l = get_or-set_other table x c k 0 (λ e. omega arith) ∙ f c (omega arith)

  stored_at : (low : ℕ) (table xs ks : List ℕ) → length table ≡ table_size → Free low table → rising (cell_fine n) low xs ≡ true
      → (c : ℕ) → get_or (stored table xs ks) c 0 ≡ get_or table c 0 + count_at xs ks c
  unfolding stored
  stored_at low table [] ks l f e c = unfold count_at in omega arith
  stored_at low table (x ∷ xs) [] l f e c = unfold count_at in omega arith
  stored_at low table (x ∷ xs) (k ∷ ks) l f e c =
      let r = rises (cell_fine n) low x xs e in
      let b : x < length table = omega (arith, cell_below n x r.passes) in
      let ih = stored_at (x + 1) (set table x k) xs ks (length-set table x k ∙ l) (free_set low x k table f r.above) r.rest c in
      elim (ℕ_discrete x c) [
        | yes q ↦ omega (
          arith,
          ih,
          ap (λ (j : ℕ). get_or (set table x k) j 0) q,
          get_or-set_same table x k 0 b,
          f c (omega (arith, r.above)),
          count-here x k xs ks c q,
          count-below (cell_fine n) (x + 1) xs ks c r.rest (omega arith),
        )
        | no d ↦ omega (arith, ih, get_or-set_other table x c k 0 (λ z. d (sym z)), count-other x k xs ks c d)
      ]

  stored-sum : (low : ℕ) (table xs ks : List ℕ) → length table ≡ table_size → Free low table → rising (cell_fine n) low xs ≡ true
      → length xs ≡ length ks
      → sum table_size (at (stored table xs ks)) ≡ sum table_size (at table) + total ks
  unfolding stored total
  stored-sum low table [] [] l f e m = omega arith
  stored-sum low table [] (k ∷ ks) l f e m = absurd (omega arith)
  stored-sum low table (x ∷ xs) [] l f e m = absurd (omega arith)
  stored-sum low table (x ∷ xs) (k ∷ ks) l f e m =
      let r = rises (cell_fine n) low x xs e in
      let b : x < table_size = omega (arith, cell_below n x r.passes) in
      omega (
        arith,
        stored-sum (x + 1) (set table x k) xs ks (length-set table x k ∙ l) (free_set low x k table f r.above) r.rest (omega arith),
        sum-set table_size table x k b (omega arith),
        f x r.above,
      )

-- ---- the table of a sheet

pub length-zeros : length zeros ≡ table_size
unfolding zeros
length-zeros = refl

pub no_count : (c : ℕ) → get_or zeros c 0 ≡ 0
unfolding zeros
no_count c = zeros-at table_size c

pub length-table : (s : List ℕ) (e : ℕ) → length (table_of s e) ≡ table_size
unfolding table_of
length-table s e = length_from (cells_of s e) (counts_of s e) 0 table_size

module _ (s : List ℕ) (n e : ℕ) (u : Unpackable s n e) where
  -- THEOREM. Each entry of the table is the count that the sheet gives that cell, and 0 for absent cells, behind its end too.
  pub count-table : (c : ℕ) → get_or (table_of s e) c 0 ≡ count_at (cells_of s e) (counts_of s e) c
  unfolding table_of
  count-table c = elim (dec_lt c table_size) [
    | yes l ↦ from_at (cells_of s e) (counts_of s e) 0 table_size c l ∙ rw (zero-add c)
    | no d ↦
        get_or-eq_default (counts_from (cells_of s e) (counts_of s e) 0 table_size) 0
        (omega (arith, length_from (cells_of s e) (counts_of s e) 0 table_size))
        ∙ sym (count_absent (cell_fine n) 0 (cells_of s e) (counts_of s e) c u.cells (cell-beyond n c u.few (omega arith)))
  ]

  stored_is : (c : ℕ) → get_or (stored zeros (cells_of s e) (counts_of s e)) c 0 ≡ count_at (cells_of s e) (counts_of s e) c
  stored_is c =
      omega (arith, stored_at n u.few 0 zeros (cells_of s e) (counts_of s e) length-zeros (λ j l. no_count j) u.cells c, no_count c)

  -- each cell is an index of the table
  pub index_below : (i : ℕ) → i < e → get_or (words s) (3 + i) 0 < table_size
  index_below i h =
      let there : length (cells_of s e) ≡ e = length_part 3 e (words s) (omega (arith, length-words s, u.long)) in
      let c : cell_fine n (get_or (cells_of s e) i 0) ≡ true = rising-at (cell_fine n) 0 (cells_of s e) u.cells i (omega arith) in
      omega (arith, part_at (words s) 3 e i h, cell_below n (get_or (cells_of s e) i 0) c, u.few)

  -- THEOREM. Storing the counts one by one into zeros makes the table.
  pub table-stored : table_of s e ≡ stored zeros (cells_of s e) (counts_of s e)
  table-stored =
      ext_get_or 0 (table_of s e) (stored zeros (cells_of s e) (counts_of s e))
      (length-table s e ∙ sym (length-stored zeros (cells_of s e) (counts_of s e) ∙ length-zeros))
      (λ c l. count-table c ∙ sym (stored_is c))

module _ (s : List ℕ) (a : SheetAnswer) (k : Accepted s a) where
  pub table_at : (c : ℕ) → get_or (table_of s a.e) c 0 ≡ count_at (cells_of s a.e) (counts_of s a.e) c
  table_at = count-table s a.n a.e (sheet_unpackable s a k)

  -- a cell that names a node not below N has 0
  pub table-outside : (c : ℕ) → cell_fine a.n c ≡ false → get_or (table_of s a.e) c 0 ≡ 0
  table-outside c f = table_at c ∙ count_absent (cell_fine a.n) 0 (cells_of s a.e) (counts_of s a.e) c k.cells f

  -- THEOREM. The sum of all entries is P.
  pub table-sum : sum table_size (at (table_of s a.e)) ≡ a.p
  table-sum =
      omega (
        arith,
        ap (λ (t : List ℕ). sum table_size (at t)) (table-stored s a.n a.e (sheet_unpackable s a k)),
        stored-sum a.n k.n_high 0 zeros (cells_of s a.e) (counts_of s a.e) length-zeros (λ j l. no_count j) k.cells
            (cells_are s a k ∙ sym (counts_are s a k)),
        sum_zeros table_size (at zeros) (λ c l. no_count c),
        k.sum.is,
      )

  -- so it does not wrap
  pub table-within : sum table_size (at (table_of s a.e)) ≤ max_total
  table-within = omega (arith, table-sum, k.sum.within)
