-- A sheet's counts added to a table, entry by entry: what holds at the loop's head, and one turn. Assumes nothing.
use mathlib.Core.Path.{◌≡◌, sym, ap}
use mathlib.Core.List.{List}
use Prim.Native.Nat.{ℕ, ◌+◌, ◌≤◌, ◌<◌}
use native.Mathlib.Decide.{ℕ_discrete}
use native.Mathlib.Omega.{arith}
use lib.ListN.{length, get_or, set, length-set}
use lib.Seq.{get_or-set_same, get_or-set_other}
use Rattle.limit.specs.Limit.{max_total, table_size}
use Rattle.arrays.specs.Arrays.{at}
use Rattle.words.specs.Words.{words}
use Rattle.sheet.specs.Table.{table_of}
use Rattle.sheet.proofs.Tables.{length-table}
use Rattle.sheet.proofs.Left.{left, Left, left_begin, left-all, left-none, left_below, left_here, left_gone, left_other, left_again}
use Rattle.inlet.specs.Join.{sum_of}
use Rattle.inlet.specs.Inner.{Addable}
use Rattle.inlet.proofs.Tables.{added_is}

-- at the loop's head: with the entries left, each cell has the sum
pub record Adding (old s : List ℕ) (n e : ℕ) (table : List ℕ) (i : ℕ) : Type 0 where
  pub entries : Left s n e i
  pub size : length table ≡ table_size
  pub added : (c : ℕ) → at table c + left s e i c ≡ at old c + at (table_of s e) c

module _ (old s : List ℕ) (n e : ℕ) (given : Addable old s n e) where
  pub begin : Adding old s n e old 0
  begin =
      record {
        entries = left_begin s n e given.entries;
        size = given.size;
        added = λ c. ap (λ (x : ℕ). at old c + x) (left-all s n e given.entries c);
      }

  module _ (table : List ℕ) (i : ℕ) (at_head : Adding old s n e table i) where
    -- no entry is left
    pub end : e ≤ i → table ≡ sum_of old (table_of s e)
    end h =
        added_is old (table_of s e) given.size (length-table s e) table at_head.size
        (λ c. omega (arith, left-none s n e given.entries i h c, at_head.added c))

    -- a turn: cell x and count k were read as entry i
    module _ (h : i < e) (x k : ℕ) (is_x : x ≡ get_or (words s) (3 + i) 0) (is-k : k ≡ get_or (words s) (3 + e + i) 0) where
      pub index_below : x < table_size
      index_below = left_below s n e given.entries i at_head.entries h x k is_x is-k

      here : left s e i x ≡ k
      here = left_here s n e given.entries i at_head.entries h x k is_x is-k

      -- the sum fits
      pub fits : at table x + k ≤ max_total
      fits = omega (arith, at_head.added x, here, given.room x index_below)

      pub again : Adding old s n e (set table x (at table x + k)) (i + 1)
      again =
          record {
            entries = left_again s n e given.entries i at_head.entries h x k is_x is-k;
            size = simp length-set at_head.size;
            added = λ c. elim (ℕ_discrete x c) [
              | yes q ↦ rw (← q)
                  (omega (
                    arith,
                    get_or-set_same table x (at table x + k) 0 (omega (arith, at_head.size, index_below)),
                    left_gone s n e given.entries i at_head.entries h x k is_x is-k,
                    here,
                    at_head.added x,
                  ))
              | no d ↦ omega (
                arith,
                get_or-set_other table x c (at table x + k) 0 (λ z. d (sym z)),
                left_other s n e given.entries i at_head.entries h x k is_x is-k c d,
                at_head.added c,
              )
            ];
          }
