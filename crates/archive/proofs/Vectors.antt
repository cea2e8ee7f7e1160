-- The order of 8 × 8 cells, as docs/FORMATS.md draws it, and step D's sheet in an archive. Assumes nothing.
use mathlib.Core.Path.{◌≡◌, refl, sym, ap, ◌∙◌}
use mathlib.Core.List.{List, [], ◌∷◌}
use Prim.Native.Nat.{ℕ, ◌≤◌}
use native.Mathlib.Omega.{arith}
use lib.ListN.{length, take}
use Rattle.fold.specs.Sum.{sum}
use Rattle.fold.specs.Collect.{collect}
use Rattle.fold.specs.Rising.{rising}
use Rattle.limit.specs.Limit.{limit_of}
use Rattle.words.specs.Words.{words, encode}
use Rattle.words.specs.declared.WrittenAnswer.{WrittenAnswer}
use Rattle.words.specs.Answer.{accepted}
use Rattle.sheet.specs.Sheet.{running_sum, read_header, read_sheet}
use Rattle.sheet.specs.Table.{count_at, counts_from, table_of, table_in, held}
use Rattle.archive.specs.ZOrder.{position}
use Rattle.archive.specs.Archive.{archive_size, write_answer, archive_after, count_in}
use Rattle.archive.proofs.RoundTrip.{writes, archive_read_back}

-- the positions of the first eight subdomains' cells with this holder
abbrev row : ℕ → List ℕ
row holder = collect 8 (λ subdomain. position holder subdomain ∷ [])

-- the picture: a row for each holder
pub picture : collect 8 row
    ≡ 0 ∷ 1 ∷ 4 ∷ 5 ∷ 16 ∷ 17 ∷ 20 ∷ 21
    ∷ 2 ∷ 3 ∷ 6 ∷ 7 ∷ 18 ∷ 19 ∷ 22 ∷ 23
    ∷ 8 ∷ 9 ∷ 12 ∷ 13 ∷ 24 ∷ 25 ∷ 28 ∷ 29
    ∷ 10 ∷ 11 ∷ 14 ∷ 15 ∷ 26 ∷ 27 ∷ 30 ∷ 31
    ∷ 32 ∷ 33 ∷ 36 ∷ 37 ∷ 48 ∷ 49 ∷ 52 ∷ 53
    ∷ 34 ∷ 35 ∷ 38 ∷ 39 ∷ 50 ∷ 51 ∷ 54 ∷ 55
    ∷ 40 ∷ 41 ∷ 44 ∷ 45 ∷ 56 ∷ 57 ∷ 60 ∷ 61
    ∷ 42 ∷ 43 ∷ 46 ∷ 47 ∷ 58 ∷ 59 ∷ 62 ∷ 63 ∷ []
unfolding collect position sum
picture = refl

-- and the last cell stands last
pub last-position : position 63 63 ≡ 4095
unfolding position sum
last-position = refl

-- ---- step D: nodes 0, 1 and 2 hold 90, 6 and 4 particles of their own subdomains

abbrev sheet : List ℕ
sheet = encode (3 ∷ 100 ∷ 3 ∷ 0 ∷ 65 ∷ 130 ∷ 90 ∷ 6 ∷ 4 ∷ [])

sheet_fine : (read_sheet sheet).refusal ≡ 0
unfolding read_sheet read_header words encode rising running_sum limit_of
sheet_fine = refl

-- what a cell of it has
cell-count : (held (table_in sheet) 0 0 ≡ 90)
    × (held (table_in sheet) 1 1 ≡ 6)
    × (held (table_in sheet) 2 2 ≡ 4)
    × (held (table_in sheet) 1 2 ≡ 0)
unfolding table_of counts_from count_at read_sheet read_header words encode rising running_sum limit_of
cell-count = (refl, refl, refl, refl)

diagonal : (position 0 0 ≡ 0) × (position 1 1 ≡ 3) × (position 2 2 ≡ 12) × (position 1 2 ≡ 6)
unfolding position sum
diagonal = (refl, refl, refl, refl)

-- its archive, in a buffer that is long enough: 90, 6 and 4 particles at positions 0, 3 and 12, and none at 6
pub archive_D : (out : List ℕ) → archive_size ≤ length out
    → let a = take (write_answer sheet (length out)).bytes (archive_after sheet out) in
    (write_answer sheet (length out) ≡ accepted 16392)
    × (count_in a 0 ≡ 90)
    × (count_in a 3 ≡ 6)
    × (count_in a 12 ≡ 4)
    × (count_in a 6 ≡ 0)
archive_D out fits =
    let w = writes sheet (length out) sheet_fine fits in
    let k = (archive_read_back sheet out (ap (λ (x : WrittenAnswer). x.refusal) w)).counts in
    let a = take (write_answer sheet (length out)).bytes (archive_after sheet out) in (
      w,
      ap (count_in a) (sym diagonal.0) ∙ k 0 0 (omega arith) (omega arith) ∙ cell-count.0,
      ap (count_in a) (sym diagonal.1) ∙ k 1 1 (omega arith) (omega arith) ∙ cell-count.1,
      ap (count_in a) (sym diagonal.2) ∙ k 2 2 (omega arith) (omega arith) ∙ cell-count.2,
      ap (count_in a) (sym diagonal.3) ∙ k 1 2 (omega arith) (omega arith) ∙ cell-count.3,
    )
