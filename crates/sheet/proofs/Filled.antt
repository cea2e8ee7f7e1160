-- Laws of the cells that are written: one more cell, with or without a count. Assumes nothing.
use mathlib.Core.Path.{◌≡◌, ◌∙◌}
use mathlib.Core.List.{List, [], ◌∷◌, ◌++◌, append-nil, map, map-append}
use mathlib.Core.Bool.{Bool, true, false, cond}
use Prim.Native.Nat.{ℕ, zero, suc, ◌+◌, ◌*◌, ◌-◌, ◌≤◌, ◌<◌}
use native.Mathlib.Omega.{arith}
use borrow.Author.Tests.{eq-eqb, ne_eqb}
use lib.Dec.{eqb}
use lib.ListN.{length, get_or, length-append, length-map}
use lib.Seq.{sets}
use Rattle.fold.specs.Collect.{collect}
use Rattle.fold.proofs.Lists.{collect_more, collect_grows}
use Rattle.limit.specs.Limit.{max_nodes}
use Rattle.words.specs.Words.{bytes_of, encode, put_word}
use Rattle.words.proofs.Words.{length-encode, encode_snoc}
use Rattle.words.proofs.Buffer.{put_behind, put_before}
use Rattle.sheet.specs.Write.{filled, filled_cells, sheet_words, sheet_bytes}

-- the counts of the cells below c that have one
abbrev pub counts : List ℕ → ℕ → List ℕ
counts table c = map (λ k. get_or table k 0) (collect c (filled table))

pub filled_none : (table : List ℕ) (c : ℕ) → get_or table c 0 ≡ 0 → filled table c ≡ []
unfolding filled
filled_none table c e = rw (eq-eqb (get_or table c 0) 0 e)

pub filled-one : (table : List ℕ) (c : ℕ) → (get_or table c 0 ≡ 0 → ⊥) → filled table c ≡ c ∷ []
unfolding filled
filled-one table c d = rw (ne_eqb (get_or table c 0) 0 d)

pub cells_skip : (table : List ℕ) (c : ℕ) → get_or table c 0 ≡ 0 → collect (c + 1) (filled table) ≡ collect c (filled table)
cells_skip table c e = collect_more c (filled table) ∙ rw (filled_none table c e) (append-nil (collect c (filled table)))

pub cells-one : (table : List ℕ) (c : ℕ) → (get_or table c 0 ≡ 0 → ⊥) → collect (c + 1) (filled table) ≡ collect c (filled table) ++ (c ∷ [])
cells-one table c d = collect_more c (filled table) ∙ rw (filled-one table c d)

-- a cell with a count is one more of all that have one
pub cell_more : (table : List ℕ) (n c : ℕ) → c < 64 * n → (get_or table c 0 ≡ 0 → ⊥)
    → length (collect c (filled table)) < length (filled_cells n table)
cell_more table n c h d =
    let e : c + 1 + (64 * n - (c + 1)) ≡ 64 * n = omega arith in
    let one : length (collect (c + 1) (filled table)) ≡ length (collect c (filled table)) + 1 =
    rw (cells-one table c d) (length-append (collect c (filled table)) (c ∷ [])) in
    omega (arith, rw e at (collect_grows (c + 1) (64 * n - (c + 1)) (filled table)))

-- there are at most as many as cells passed
pub cells-le : (table : List ℕ) (c : ℕ) → length (collect c (filled table)) ≤ c
unfolding collect filled
cells-le table zero = omega arith
cells-le table (suc c) = simp length-append (omega (arith, cells-le table c, one (eqb (get_or table c 0) 0)))
  where
    one : (b : Bool) → length (cond {A = List ℕ} b [] (c ∷ [])) ≤ 1
    one true = omega arith
    one false = omega arith

-- the two arrays, with one more cell and its count stored as entry i behind what is there
pub store_one : (out table : List ℕ) (e i c : ℕ) → (get_or table c 0 ≡ 0 → ⊥) → i ≡ length (collect c (filled table)) → i < e
    → put_word (put_word (sets (sets out 12 (encode (collect c (filled table)))) (4 * (3 + e)) (encode (counts table c))) (4 * (3 + i)) c)
    (4 * (3 + e + i)) (get_or table c 0)
    ≡ sets (sets out 12 (encode (collect (c + 1) (filled table)))) (4 * (3 + e)) (encode (counts table (c + 1)))
store_one out table e i c d q h =
    let xs = collect c (filled table) in
    let at : 4 * (3 + i) ≡ 12 + 4 * length xs = omega arith in
    let behind : 4 * (3 + e + i) ≡ 4 * (3 + e) + 4 * length (counts table c) = simp length-map (omega arith) in
    rw (
      put_before (sets out 12 (encode xs)) (4 * (3 + e)) (encode (counts table c)) (4 * (3 + i)) c (omega arith),
      at,
      put_behind out 12 xs c,
      behind,
    )
    (put_behind (sets out 12 (encode xs ++ bytes_of c)) (4 * (3 + e)) (counts table c) (get_or table c 0)
    ∙ rw (cells-one table c d, encode_snoc xs c, map-append, encode_snoc (counts table c) (get_or table c 0)))

-- the length of the record
pub length-sheet : (n t : ℕ) (table : List ℕ) → length (sheet_bytes n t table) ≡ 4 * (3 + 2 * length (filled_cells n table))
unfolding sheet_bytes
length-sheet n t table = length-encode (sheet_words n t table) ∙ simp (length-append, length-map) (omega arith)

-- what writing uses
pub ruleset sizes = (length-sheet)

-- no sheet of 64 nodes is longer than 32,780 bytes
pub length_most : (n t : ℕ) (table : List ℕ) → n ≤ max_nodes → length (sheet_bytes n t table) ≤ 32780
length_most n t table h = omega (arith, length-sheet n t table, cells-le table (64 * n))
