-- Counts in order: each cell's count stands at its position, and a list of 4,096 counts is known by that. The table that is read from an
-- archive has them at their cells again. Assumes nothing.
use mathlib.Core.Path.{◌≡◌, refl, sym, ◌∙◌}
use mathlib.Core.List.{List}
use Prim.Native.Nat.{ℕ, zero, suc, ◌≤◌, ◌<◌}
use native.Mathlib.Decide.{ℕ_discrete}
use native.Mathlib.Omega.{arith}
use lib.ListN.{length, set, length-set}
use lib.Seq.{get_or-set_same, get_or-set_other, ext_get_or}
use Rattle.limit.specs.Limit.{table_size}
use Rattle.arrays.specs.Arrays.{at}
use Rattle.arrays.proofs.Padded.{zeros-at}
use Rattle.arrays.proofs.Tabulate.{length-row, row_at}
use Rattle.archive.specs.ZOrder.{position_of}
use Rattle.archive.specs.Archive.{no_counts, in_order, count_in, table_from}
use Rattle.archive.proofs.Bits.{position-below, positions_differ, positions-fill}

-- ---- no counts

pub length_none : length no_counts ≡ table_size
unfolding no_counts
length_none = refl

pub none-at : (p : ℕ) → at no_counts p ≡ 0
unfolding no_counts
none-at p = zeros-at table_size p

-- ---- a count more at its position

module _ (xs : List ℕ) (size : length xs ≡ table_size) (c k : ℕ) where
  pub stored_here : at (set xs (position_of c) k) (position_of c) ≡ k
  stored_here =
      get_or-set_same xs (position_of c) k 0 (omega (arith, position-below c))

  pub stored_other : c < table_size → (d : ℕ) → d < table_size → (c ≡ d → ⊥)
      → at (set xs (position_of c) k) (position_of d) ≡ at xs (position_of d)
  stored_other hc d hd differ = get_or-set_other xs (position_of c) (position_of d) k 0 (λ e. differ (sym (positions_differ hd hc e)))

-- ---- all counts at their positions

module _ (table : List ℕ) where
  pub length_ordered : (n : ℕ) → length (in_order table n) ≡ table_size
  unfolding in_order
  length_ordered zero = length_none
  length_ordered (suc n) = length-set (in_order table n) (position_of n) (at table n) ∙ length_ordered n

  below : (n c : ℕ) → n ≤ table_size → c < n → at (in_order table n) (position_of c) ≡ at table c
  unfolding in_order
  below zero c h l = absurd (omega arith)
  below (suc n) c h l = elim (ℕ_discrete n c) [
    | yes e ↦ rw (← e) (stored_here (in_order table n) (length_ordered n) n (at table n))
    | no d ↦
        stored_other (in_order table n) (length_ordered n) n (at table n) (omega arith) c (omega arith) d
        ∙ below n c (omega arith) (omega arith)
  ]

  -- THEOREM. Each cell's count stands at its position.
  pub ordered_at : (c : ℕ) → c < table_size → at (in_order table table_size) (position_of c) ≡ at table c
  ordered_at c h = below table_size c (omega arith) h

  -- THEOREM. A list of 4,096 counts that has each at its position is that list.
  pub ordered_is : (xs : List ℕ) → length xs ≡ table_size → ((c : ℕ) → c < table_size → at xs (position_of c) ≡ at table c)
      → xs ≡ in_order table table_size
  ordered_is xs size each = ext_get_or 0 xs (in_order table table_size) (size ∙ sym (length_ordered table_size)) same
    where
      same : (p : ℕ) → p < length xs → at xs p ≡ at (in_order table table_size) p
      same p h =
          let f = positions-fill p (omega arith) in
          rw (← f.2) (each f.0 f.1 ∙ sym (ordered_at f.0 f.1))

-- ---- the table of an archive

module _ (a : List ℕ) where
  pub length_from : length (table_from a) ≡ table_size
  unfolding table_from
  length_from = length-row (λ c. count_in a (position_of c)) table_size

  pub from_at : (c : ℕ) → c < table_size → at (table_from a) c ≡ count_in a (position_of c)
  unfolding table_from
  from_at c h = row_at (λ c. count_in a (position_of c)) table_size c h

  -- a table with these counts is this one
  pub from_is : (table : List ℕ) → length table ≡ table_size → ((c : ℕ) → c < table_size → at table c ≡ count_in a (position_of c))
      → table ≡ table_from a
  from_is table size each =
      ext_get_or 0 table (table_from a) (size ∙ sym length_from) (λ c h. each c (omega arith) ∙ sym (from_at c (omega arith)))
