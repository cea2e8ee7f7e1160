-- A sheet's counts stored at their positions, entry by entry: what holds at the loop's head, and one turn; and the buffer that the loop
-- begins with. Assumes nothing.
use mathlib.Core.Path.{◌≡◌, sym, ap, ◌∙◌}
use mathlib.Core.List.{List, [], ◌∷◌, ◌++◌}
use Prim.Native.Nat.{ℕ, suc, ◌+◌, ◌*◌, ◌≤◌, ◌<◌}
use native.Mathlib.Decide.{ℕ_discrete}
use native.Mathlib.Omega.{arith}
use borrow.Rule.Slice.PartMut.{mid_of, put_mid}
use lib.ListN.{length, take, drop, get_or, set, replicate, length-set, length-take, length-drop, length-replicate}
use lib.Seq.{drop-drop}
use Rattle.limit.specs.Limit.{table_size}
use Rattle.arrays.specs.Arrays.{at}
use Rattle.words.specs.Words.{words, encode, put_word}
use Rattle.words.specs.Buffer.{placed}
use Rattle.words.proofs.Words.{encode-append, encode-zeros}
use Rattle.words.proofs.Buffer.{sets-placed, put_placed}
use Rattle.sheet.specs.Table.{table_of}
use Rattle.sheet.specs.Inner.{Unpackable}
use Rattle.sheet.proofs.Left.{left, Left, left_begin, left-all, left-none, left_below, left-count, left_gone, left_other, left_again}
use Rattle.archive.specs.ZOrder.{position_of}
use Rattle.archive.specs.Archive.{archive_size, no_counts, in_order}
use Rattle.archive.proofs.Bits.{position-below}
use Rattle.archive.proofs.Ordered.{length_none, none-at, stored_here, stored_other, ordered_is}

-- at the loop's head: with the entries left, each cell's count stands at its position
pub record Storing (s : List ℕ) (n e : ℕ) (xs : List ℕ) (i : ℕ) : Type 0 where
  pub entries : Left s n e i
  pub size : length xs ≡ table_size
  pub stored : (c : ℕ) → c < table_size → at xs (position_of c) + left s e i c ≡ at (table_of s e) c

module _ (s : List ℕ) (n e : ℕ) (given : Unpackable s n e) where
  pub begin : Storing s n e no_counts 0
  begin =
      record {
        entries = left_begin s n e given;
        size = length_none;
        stored = λ c l. omega (arith, none-at (position_of c), left-all s n e given c);
      }

  module _ (xs : List ℕ) (i : ℕ) (at_head : Storing s n e xs i) where
    -- no entry is left
    pub end : e ≤ i → xs ≡ in_order (table_of s e) table_size
    end h = ordered_is (table_of s e) xs at_head.size (λ c l. omega (arith, left-none s n e given i h c, at_head.stored c l))

    -- a turn: cell x and count k were read as entry i
    module _ (h : i < e) (x k : ℕ) (is_x : x ≡ get_or (words s) (3 + i) 0) (is-k : k ≡ get_or (words s) (3 + e + i) 0) where
      pub index_below : x < table_size
      index_below = left_below s n e given i at_head.entries h x k is_x is-k

      here : at (set xs (position_of x) k) (position_of x) + left s e (i + 1) x ≡ at (table_of s e) x
      here =
          omega (
            arith,
            stored_here xs at_head.size x k,
            left_gone s n e given i at_head.entries h x k is_x is-k,
            left-count s n e given i at_head.entries h x k is_x is-k,
          )

      pub again : Storing s n e (set xs (position_of x) k) (i + 1)
      again =
          record {
            entries = left_again s n e given i at_head.entries h x k is_x is-k;
            size = length-set xs (position_of x) k ∙ at_head.size;
            stored = λ c l. elim (ℕ_discrete x c) [
              | yes q ↦
                  ap (λ (d : ℕ). at (set xs (position_of x) k) (position_of d) + left s e (i + 1) d) (sym q)
                  ∙ here
                  ∙ ap (at (table_of s e)) q
              | no d ↦ omega (
                arith,
                stored_other xs at_head.size x k index_below c l d,
                left_other s n e given i at_head.entries h x k is_x is-k c d,
                at_head.stored c l,
              )
            ];
          }

-- ---- the buffer

-- a head of two words, and so many counts of 0 written behind it
head-zeros : (out : List ℕ) (n t m : ℕ) → 4 * (2 + m) ≤ length out →
    let head = put_word (put_word out 0 n) 4 t in
    put_mid 8 (4 * m) head (replicate (length (mid_of 8 (4 * m) head)) 0) ≡ placed (encode (n ∷ t ∷ replicate m 0)) out
unfolding encode
head-zeros out n t m fits =
    let h = encode (n ∷ t ∷ []) in
    let z : encode (n ∷ t ∷ replicate m 0) ≡ h ++ replicate (4 * m) 0 =
    encode-append (n ∷ t ∷ []) (replicate m 0) ∙ ap (λ (l : List ℕ). h ++ l) (encode-zeros m) in
    let size : length (take (4 * m) (drop 8 out)) ≡ 4 * m = simp (length-take, length-drop) (omega arith) in
    let all : 8 + 4 * m ≡ length (h ++ replicate (4 * m) 0) = simp length-replicate (omega arith) in
    let rest : drop (4 * m) (drop 8 out) ≡ drop (length (h ++ replicate (4 * m) 0)) out =
    drop-drop (4 * m) 8 out ∙ ap (λ (k : ℕ). drop k out) all in
    rw (sets-placed h out (omega arith), size)
    (ap (λ (l : List ℕ). h ++ (replicate (4 * m) 0 ++ l)) rest ∙ ap (λ (l : List ℕ). placed l out) (sym z))

-- the buffer after the two words and the zeros
pub empty_placed : (out : List ℕ) {out₁ out₂ zeros : List ℕ} (n t : ℕ) → out₁ ≡ put_word out 0 n → out₂ ≡ put_word out₁ 4 t
    → zeros ≡ replicate (length (mid_of 8 (4 * table_size) out₂)) 0 → archive_size ≤ length out
    → put_mid 8 (4 * table_size) out₂ zeros ≡ placed (encode (n ∷ t ∷ no_counts)) out
unfolding no_counts
empty_placed out n t first second third fits = rw (third, second, first) (head-zeros out n t table_size (omega arith))

-- one count more in the buffer
pub put_count : (out : List ℕ) (n t : ℕ) (xs : List ℕ) (c k : ℕ) → length xs ≡ table_size
    → put_word (placed (encode (n ∷ t ∷ xs)) out) (4 * (2 + position_of c)) k ≡ placed (encode (n ∷ t ∷ set xs (position_of c) k)) out
put_count out n t xs c k size =
    let e : 2 + position_of c ≡ suc (suc (position_of c)) = omega arith in
    let l : suc (suc (position_of c)) < length (n ∷ t ∷ xs) = omega (arith, position-below c) in
    rw e (put_placed (n ∷ t ∷ xs) out (suc (suc (position_of c))) k l)
