-- A sheet that was written is read back as what was written, and an accepted sheet's table is written as the same bytes.
-- Assumes nothing.
use mathlib.Core.Path.{◌≡◌, refl, sym, ap, ap₂, ◌∙◌}
use mathlib.Core.Logic.{◌≢◌, ◌⊎◌, inl, inr}
use mathlib.Core.List.{List, [], ◌∷◌, ◌++◌, map, map-append}
use mathlib.Core.Bool.{Bool, true, false}
use Prim.Native.Nat.{ℕ, zero, suc, ◌+◌, ◌*◌, ◌-◌, ◌/◌, ◌%◌, ◌≤◌, ◌<◌, ◌^◌}
use native.Mathlib.Decide.{ℕ_discrete}
use native.Mathlib.Nat.{add-zero}
use native.Mathlib.Omega.{arith}
use borrow.Author.Tests.{lt-ltb, le-ltb, eq-eqb}
use lib.Dec.{ltb}
use lib.ListN.{length, get_or, length-append, length-map}
use lib.Seq.{ext_get_or}
use Rattle.fold.specs.Sum.{only, sum, total}
use Rattle.fold.specs.Collect.{collect}
use Rattle.fold.specs.Rising.{rising}
use Rattle.fold.proofs.Tests.{either}
use Rattle.fold.proofs.Sums.{sum-none, sum-suc, sum-eq, sum-split, sum_below, sum_term, sum_zeros, total-append}
use Rattle.fold.proofs.Lists.{rises, rising_more, rising_none, rising-from, rising-at, collect-front, collect-eq, map_at}
use Rattle.limit.specs.Limit.{max_nodes, max_tolerance, max_total, table_size, limit_of}
use Rattle.limit.proofs.Laws.{one-to_of}
use Rattle.words.specs.Words.{words}
use Rattle.words.proofs.Words.{Below, below_none}
use Rattle.words.proofs.Records.{Back, below_three, take_three, record_back, record_again}
use Rattle.sheet.specs.declared.SheetAnswer.{SheetAnswer}
use Rattle.sheet.specs.Sheet.{accepted, cells_of, counts_of, cell_fine, running_sum, read_header, read_sheet}
use Rattle.sheet.specs.Table.{count_at, table_of, table_in}
use Rattle.sheet.specs.Write.{filled, filled_cells, filled_counts, sheet_words, sheet_bytes}
use Rattle.sheet.proofs.Laws.{cell_below, cell-subdomain, sum_of}
use Rattle.sheet.proofs.Accepted.{Accepted, sheet-accepted, words_are, cells_are, counts_are}
use Rattle.sheet.proofs.Tables.{count-here, count-other, count-below, count_absent, length-table, table_at, table-outside, table-within}
use Rattle.sheet.proofs.Filled.{filled_none, filled-one, cells-le, length-sheet}
use Rattle.std.specs.Prelude.{Some}

-- ---- the filled cells from low on, from the front

from : List ℕ → ℕ → ℕ → List ℕ
from table low m = collect m (λ k. filled table (low + k))

from-none : (table : List ℕ) (low : ℕ) → from table low 0 ≡ []
unfolding from collect
from-none table low = refl

from_front : (table : List ℕ) (low m : ℕ) → from table low (suc m) ≡ filled table low ++ from table (low + 1) m
unfolding from
from_front table low m =
    collect-front m (λ k. filled table (low + k))
    ∙ rw (add-zero low)
    (ap (λ (l : List ℕ). filled table low ++ l)
    (collect-eq m (λ k. filled table (low + suc k)) (λ k. filled table (low + 1 + k)) (λ k h. ap (filled table) (omega arith))))

from_skip : (table : List ℕ) (low m : ℕ) → get_or table low 0 ≡ 0 → from table low (suc m) ≡ from table (low + 1) m
from_skip table low m e = from_front table low m ∙ rw (filled_none table low e)

from_one : (table : List ℕ) (low m : ℕ) → get_or table low 0 ≢ 0 → from table low (suc m) ≡ low ∷ from table (low + 1) m
from_one table low m d = from_front table low m ∙ rw (filled-one table low d)

from_all : (n : ℕ) (table : List ℕ) → filled_cells n table ≡ from table 0 (64 * n)
unfolding from
from_all n table = collect-eq (64 * n) (filled table) (λ k. filled table (0 + k)) (λ k h. ap (filled table) (omega arith))

-- ---- a table that can be written

pub record Writable (n t : ℕ) (table : List ℕ) : Type 0 where
  pub n_low : 1 ≤ n
  pub n_high : n ≤ max_nodes
  pub t_low : 1 ≤ t
  pub t_high : t ≤ max_tolerance
  pub size : length table ≡ table_size
  pub outside : (c : ℕ) → cell_fine n c ≡ false → get_or table c 0 ≡ 0
  pub within : sum table_size (λ c. get_or table c 0) ≤ max_total

module _ (n t : ℕ) (table : List ℕ) (w : Writable n t table) where
  abbrev count : ℕ → ℕ
  count c = get_or table c 0

  fine : (c : ℕ) → get_or table c 0 ≢ 0 → cell_fine n c ≡ true
  fine c d = split (either (cell_fine n c))
    where
      split : (cell_fine n c ≡ true) ⊎ (cell_fine n c ≡ false) → cell_fine n c ≡ true
      split (inl e) = e
      split (inr e) = absurd (d (w.outside c e))

  from_rises : (low m : ℕ) → rising (cell_fine n) low (from table low m) ≡ true
  from_rises low zero = rw (from-none table low) (rising_none (cell_fine n) low)
  from_rises low (suc m) = elim (ℕ_discrete (get_or table low 0) 0) [
    | yes e ↦
        rw
        (from_skip table low m e) (rising-from (cell_fine n) (low + 1) low (from table (low + 1) m) (omega arith) (from_rises (low + 1) m))
    | no d ↦
        rw (from_one table low m d) (rising_more (cell_fine n) low low (from table (low + 1) m) (omega arith) (fine low d)
        ∙ from_rises (low + 1) m)
  ]

  cells-rise : rising (cell_fine n) 0 (filled_cells n table) ≡ true
  cells-rise = rw (from_all n table) (from_rises 0 (64 * n))

  from-count : (low m c : ℕ) → low ≤ c → c < low + m
      → count_at (from table low m) (map (λ k. get_or table k 0) (from table low m)) c ≡ get_or table c 0
  from-count low zero c h l = absurd (omega arith)
  from-count low (suc m) c h l = elim (ℕ_discrete (get_or table low 0) 0) [
    | yes e ↦ rw (from_skip table low m e) (elim (ℕ_discrete low c) [
      | yes q ↦
          count-below (cell_fine n) (low + 1) (from table (low + 1) m) (map count (from table (low + 1) m)) c (from_rises (low + 1) m)
          (omega arith) ∙ sym (ap count (sym q) ∙ e)
      | no r ↦ from-count (low + 1) m c (omega arith) (omega arith)
    ])
    | no d ↦ rw (from_one table low m d) (elim (ℕ_discrete low c) [
      | yes q ↦ count-here low (count low) (from table (low + 1) m) (map count (from table (low + 1) m)) c q ∙ ap count q
      | no r ↦
          count-other low (count low) (from table (low + 1) m) (map count (from table (low + 1) m)) c r
          ∙ from-count (low + 1) m c (omega arith) (omega arith)
    ])
  ]

  -- each cell's count beside it, and 0 for the others
  cells_count : (c : ℕ) → count_at (filled_cells n table) (filled_counts n table) c ≡ get_or table c 0
  cells_count c = split (either (cell_fine n c))
    where
      split : (cell_fine n c ≡ true) ⊎ (cell_fine n c ≡ false) → count_at (filled_cells n table) (filled_counts n table) c ≡ get_or table c 0
      split (inl e) = rw (from_all n table) (from-count 0 (64 * n) c (omega arith) (omega (arith, cell_below n c e)))
      split (inr e) = count_absent (cell_fine n) 0 (filled_cells n table) (filled_counts n table) c cells-rise e ∙ sym (w.outside c e)

  -- no count is 0
  from-filled : (low m i : ℕ) → i < length (from table low m) → 0 < count (get_or (from table low m) i 0)
  from-filled low zero i h = absurd (omega (arith, ap length (from-none table low)))
  from-filled low (suc m) i h = elim (ℕ_discrete (get_or table low 0) 0) [
    | yes e ↦ rw (from_skip table low m e) (from-filled (low + 1) m i (rw (from_skip table low m e) at h))
    | no d ↦ rw (from_one table low m d) (at d (λ j. from-filled (low + 1) m j) i (rw (from_one table low m d) at h))
  ]
    where
      at : get_or table low 0 ≢ 0 → ((j : ℕ) → j < length (from table (low + 1) m) → 0 < count (get_or (from table (low + 1) m) j 0))
          → (i : ℕ) → i < length (low ∷ from table (low + 1) m) → 0 < count (get_or (low ∷ from table (low + 1) m) i 0)
      at d ih zero l = omega (arith, d)
      at d ih (suc i) l = ih i (omega arith)

  -- the counts add up to the sum of the table
  total-filled : (k : ℕ) → total (map count (collect k (filled table))) ≡ sum k count
  unfolding collect total
  total-filled zero = sym (sum-none count)
  total-filled (suc k) =
      ap total (map-append count (collect k (filled table)) (filled table k))
      ∙ total-append (map count (collect k (filled table))) (map count (filled table k))
      ∙ rw (sum-suc k count, total-filled k) (ap (λ (x : ℕ). sum k count + x) one)
    where
      one : total (map count (filled table k)) ≡ count k
      one = elim (ℕ_discrete (get_or table k 0) 0) [
        | yes e ↦ rw (filled_none table k e) (sym e)
        | no d ↦ rw (filled-one table k d) (omega arith)
      ]

  -- and there are at most N × N of them, since each names two nodes below N
  abbrev named : ℕ → ℕ
  named c = only (ltb (c % 64) n) 1

  few : (k : ℕ) → length (collect k (filled table)) ≤ sum k named
  unfolding collect
  few zero = omega arith
  few (suc k) = simp (length-append, sum-suc) (omega (arith, few k, one))
    where
      one : length (filled table k) ≤ named k
      one = elim (ℕ_discrete (get_or table k 0) 0) [
        | yes e ↦ rw (filled_none table k e) (omega arith)
        | no d ↦ rw (filled-one table k d, lt-ltb (k % 64) n (cell-subdomain n k (fine k d))) (omega arith)
      ]

  rows : (h : ℕ) → sum (64 * h) named ≡ h * n
  rows zero = omega (arith, sum-none named)
  rows (suc h) =
      let e : 64 * suc h ≡ 64 * h + 64 = omega arith in
      rw e (omega (
        arith,
        sum-split (64 * h) 64 named,
        rows h,
        sum-eq 64 (λ d. named (64 * h + d)) (λ d. only (ltb d n) 1) (λ d l. ap (λ (x : ℕ). only (ltb x n) 1) (omega arith)),
        sum_below 64 n,
        w.n_high,
      ))

  cells-few : length (filled_cells n table) ≤ n * n
  cells-few = omega (arith, few (64 * n), rows n)

  -- ---- what the bytes are read as

  abbrev e : ℕ
  e = length (filled_cells n table)

  abbrev p : ℕ
  p = sum table_size (λ c. get_or table c 0)

  -- cells from 64 × N on have no count
  cells-total : total (filled_counts n table) ≡ p
  cells-total =
      let r : 64 * n + (table_size - 64 * n) ≡ table_size = omega (arith, w.n_high) in
      total-filled (64 * n)
      ∙ sym (omega (
        arith,
        rw r at (sum-split (64 * n) (table_size - 64 * n) count),
        sum_zeros (table_size - 64 * n) (λ k. count (64 * n + k)) (λ k h. w.outside (64 * n + k) (beyond k)),
      ))
    where
      beyond : (k : ℕ) → cell_fine n (64 * n + k) ≡ false
      beyond k = rw (le-ltb ((64 * n + k) / 64) n (omega arith))

  cell_at : (i : ℕ) → i < e → get_or (filled_cells n table) i 0 < table_size
  cell_at i h =
      omega
      (arith, cell_below n (get_or (filled_cells n table) i 0) (rising-at (cell_fine n) 0 (filled_cells n table) cells-rise i h), w.n_high)

  count_bounds : (i : ℕ) → i < e → (0 < get_or (filled_counts n table) i 0) × (get_or (filled_counts n table) i 0 ≤ max_total)
  count_bounds i h =
      let q : get_or (filled_counts n table) i 0 ≡ count (get_or (filled_cells n table) i 0) = map_at count (filled_cells n table) i h in
      let b : 0 < count (get_or (filled_cells n table) i 0) = rw (from_all n table) (from-filled 0 (64 * n) i (rw (from_all n table) at h)) in
      (omega arith, omega (arith, sum_term table_size count (get_or (filled_cells n table) i 0) (cell_at i h), w.within))

  back : Back (n ∷ t ∷ e ∷ []) (filled_cells n table) (filled_counts n table) e
  back =
      let counted = length-map (filled_cells n table) count in
      record_back (n ∷ t ∷ e ∷ []) (filled_cells n table) (filled_counts n table) e refl counted
      (below_three (2 ^ 32) n t e (omega (arith, w.n_high)) (omega (arith, w.t_high)) (omega (arith, cells-le table (64 * n), w.n_high)))
      (λ i h. omega (arith, cell_at i h)) (λ i h. omega (arith, (count_bounds i (omega (arith, counted))).1))

  words-written : words (sheet_bytes n t table) ≡ sheet_words n t table
  unfolding sheet_bytes
  words-written = back.all

  pub cells-written : cells_of (sheet_bytes n t table) e ≡ filled_cells n table
  unfolding sheet_bytes
  cells-written = back.first

  pub counts-written : counts_of (sheet_bytes n t table) e ≡ filled_counts n table
  unfolding sheet_bytes
  counts-written = back.second

  -- THEOREM. A sheet that was written is accepted, with the N and t that were written and the table's sum.
  pub read-written : read_sheet (sheet_bytes n t table) ≡ accepted n t e p (limit_of p n t)
  unfolding read_sheet read_header
  read-written =
      let s = sheet_bytes n t table in
      let l = length-sheet n t table in
      let c : rising (cell_fine n) 0 (cells_of s e) ≡ true = rw cells-written cells-rise in
      let q : running_sum 0 (counts_of s e) ≡ Some p =
      rw counts-written (sum_of 0 (filled_counts n table) (omega (arith, cells-total, w.within))
      (λ i h. (count_bounds i (omega (arith, length-map (filled_cells n table) count))).0) ∙ ap Some (omega (arith, cells-total))) in
      rw (
        le-ltb (length s) 12 (omega arith),
        ap (λ (ws : List ℕ). get_or ws 0 0) words-written,
        ap (λ (ws : List ℕ). get_or ws 1 0) words-written,
        ap (λ (ws : List ℕ). get_or ws 2 0) words-written,
      )
      (simp (
        one-to_of max_nodes n w.n_low w.n_high,
        one-to_of max_tolerance t w.t_low w.t_high,
        le-ltb (n * n) e cells-few,
        eq-eqb (length s) (4 * (3 + 2 * e)) l,
        c,
        q,
      ))

  -- THEOREM. And its table is the table that was written.
  pub table-written : table_of (sheet_bytes n t table) e ≡ table
  table-written =
      let s = sheet_bytes n t table in
      let k : Accepted s (accepted n t e p (limit_of p n t)) =
      rw read-written at (sheet-accepted s (ap (λ (a : SheetAnswer). a.refusal) read-written)) in
      ext_get_or 0 (table_of s e) table (length-table s e ∙ sym w.size)
      (λ c h. table_at s (accepted n t e p (limit_of p n t)) k c ∙ ap₂ (λ (xs ks : List ℕ). count_at xs ks c) cells-written counts-written
      ∙ cells_count c)

  pub table_in_written : table_in (sheet_bytes n t table) ≡ table
  table_in_written = ap (λ (a : SheetAnswer). table_of (sheet_bytes n t table) a.e) read-written ∙ table-written

-- ---- an accepted sheet's table, written again

module _ (table : List ℕ) (ok : ℕ → Bool) where
  -- the table has each count at its cell, from low on
  abbrev Holds : ℕ → List ℕ → List ℕ → Type 0
  Holds low xs ks = (c : ℕ) → low ≤ c → get_or table c 0 ≡ count_at xs ks c

  holds-rest : (low x k : ℕ) (xs ks : List ℕ) → low ≤ x → Holds low (x ∷ xs) (k ∷ ks) → Holds (x + 1) xs ks
  holds-rest low x k xs ks h a c l = a c (omega arith) ∙ count-other x k xs ks c (λ q. omega arith)

  again_cells : (low m : ℕ) (xs ks : List ℕ) → rising ok low xs ≡ true → Below (low + m) xs → length xs ≡ length ks
      → ((i : ℕ) → i < length ks → 0 < get_or ks i 0) → Holds low xs ks → from table low m ≡ xs
  again_cells low zero [] ks r b l p a = from-none table low
  again_cells low zero (x ∷ xs) ks r b l p a = absurd (omega (arith, b 0 (omega arith), (rises ok low x xs r).above))
  again_cells low (suc m) [] ks r b l p a =
      from_skip table low m (a low (omega arith) ∙ unfold count_at in refl)
      ∙ again_cells (low + 1) m [] ks (rising_none ok (low + 1)) (below_none (low + 1 + m)) l p (λ c h. a c (omega arith))
  again_cells low (suc m) (x ∷ xs) [] r b l p a = absurd (omega arith)
  again_cells low (suc m) (x ∷ xs) (k ∷ ks) r b l p a =
      let q = rises ok low x xs r in
      elim (ℕ_discrete x low) [
        | yes z ↦
            from_one table low m (λ y. omega (arith, a low (omega arith), count-here x k xs ks low z, p 0 (omega arith)))
            ∙ ap₂ (λ (y : ℕ) (ys : List ℕ). y ∷ ys) (sym z)
            (again_cells (low + 1) m xs ks (rising-from ok (x + 1) (low + 1) xs (omega arith) q.rest)
            (λ i h. omega (arith, b (suc i) (omega arith))) (omega arith)
            (λ i h. p (suc i) (omega arith)) (λ c h. a c (omega arith) ∙ count-other x k xs ks c (λ y. omega arith)))
        | no d ↦
            let r' : rising ok (low + 1) (x ∷ xs) ≡ true = rising_more ok (low + 1) x xs (omega (arith, q.above)) q.passes ∙ q.rest in
            from_skip table low m (a low (omega arith) ∙ count-below ok (low + 1) (x ∷ xs) (k ∷ ks) low r' (omega arith))
            ∙ again_cells (low + 1) m (x ∷ xs) (k ∷ ks) r' (λ i h. omega (arith, b i h)) l p (λ c h. a c (omega arith))
      ]

  again_counts : (low : ℕ) (xs ks : List ℕ) → rising ok low xs ≡ true → length xs ≡ length ks → Holds low xs ks
      → map (λ c. get_or table c 0) xs ≡ ks
  again_counts low [] [] r l a = refl
  again_counts low [] (k ∷ ks) r l a = absurd (omega arith)
  again_counts low (x ∷ xs) [] r l a = absurd (omega arith)
  again_counts low (x ∷ xs) (k ∷ ks) r l a =
      let q = rises ok low x xs r in
      ap₂ (λ (y : ℕ) (ys : List ℕ). y ∷ ys) (a x q.above ∙ count-here x k xs ks x refl)
      (again_counts (x + 1) xs ks q.rest (omega arith) (holds-rest low x k xs ks q.above a))

module _ (s : List ℕ) (a : SheetAnswer) (k : Accepted s a) where
  -- it can be written
  pub sheet-writable : Writable a.n a.t (table_of s a.e)
  sheet-writable =
      record {
        n_low = k.n_low;
        n_high = k.n_high;
        t_low = k.t_low;
        t_high = k.t_high;
        size = length-table s a.e;
        outside = table-outside s a k;
        within = table-within s a k;
      }

  -- its filled cells are those that the sheet names
  pub cells_again : filled_cells a.n (table_of s a.e) ≡ cells_of s a.e
  cells_again =
      from_all a.n (table_of s a.e)
      ∙ again_cells (table_of s a.e) (cell_fine a.n) 0 (64 * a.n) (cells_of s a.e) (counts_of s a.e) k.cells
      (λ i h. omega (
        arith,
        cell_below a.n (get_or (cells_of s a.e) i 0)
            (rising-at (cell_fine a.n) 0 (cells_of s a.e) k.cells i h),
      ))
      (cells_are s a k ∙ sym (counts_are s a k)) k.sum.positive (λ c h. table_at s a k c)

  counts_again : map (λ c. get_or (table_of s a.e) c 0) (cells_of s a.e) ≡ counts_of s a.e
  counts_again =
      again_counts (table_of s a.e) (cell_fine a.n) 0 (cells_of s a.e) (counts_of s a.e) k.cells
      (cells_are s a k ∙ sym (counts_are s a k)) (λ c h. table_at s a k c)

  -- THEOREM. Writing the table of an accepted sheet gives the same bytes.
  pub written_read : Below 256 s → sheet_bytes a.n a.t (table_of s a.e) ≡ s
  unfolding sheet_bytes
  written_read b =
      rw (cells_again, counts_again, cells_are s a k)
      (record_again s (a.n ∷ a.t ∷ a.e ∷ []) 3 a.e b k.size
      (rw (k.n_is, k.t_is, k.e_is) (sym (take_three (words s) (omega (arith, words_are s a k))))))
