-- The gas inlet opens after step D, by computation: the resident sheet is the one that follows D, and node 0 is given 5 new particles of
-- subdomain 0, of which it has some, and 3 of subdomain 1, of which it has none. Assumes nothing.
use mathlib.Core.Path.{◌≡◌, refl, ap}
use mathlib.Core.List.{List, [], ◌∷◌}
use Prim.Native.Nat.{ℕ}
use lib.Dec.{ltb}
use lib.ListN.{length}
use Rattle.fold.specs.Collect.{collect}
use Rattle.fold.specs.Rising.{rising}
use Rattle.limit.specs.Limit.{limit_of}
use Rattle.words.specs.Words.{words, encode}
use Rattle.words.specs.Checks.{refuse_if}
use Rattle.words.specs.Answer.{refused, accepted}
use Rattle.sheet.specs.Sheet.{running_sum, read_header, read_sheet}
use Rattle.sheet.specs.Table.{count_at, counts_from, table_of}
use Rattle.sheet.specs.Write.{filled, sheet_bytes}
use Rattle.inlet.specs.Join.{sum_of, joined_sheet, join_answer}

abbrev resident : List ℕ
resident = encode (3 ∷ 100 ∷ 5 ∷ 0 ∷ 64 ∷ 65 ∷ 128 ∷ 130 ∷ 34 ∷ 27 ∷ 6 ∷ 29 ∷ 4 ∷ [])

abbrev injected : List ℕ
injected = encode (3 ∷ 100 ∷ 2 ∷ 0 ∷ 1 ∷ 5 ∷ 3 ∷ [])

abbrev joint : List ℕ
joint = encode (3 ∷ 100 ∷ 6 ∷ 0 ∷ 1 ∷ 64 ∷ 65 ∷ 128 ∷ 130 ∷ 39 ∷ 3 ∷ 27 ∷ 6 ∷ 29 ∷ 4 ∷ [])

pub inlet_opens : joined_sheet resident injected ≡ joint
unfolding joined_sheet sheet_bytes filled collect sum_of table_of counts_from count_at read_sheet read_header words encode rising running_sum limit_of
inlet_opens = refl

-- 60 bytes are long enough for it
pub inlet_answered : join_answer resident injected 60 ≡ accepted 60
unfolding join_answer read_sheet read_header words encode rising running_sum limit_of
inlet_answered = ap (λ (rec : List ℕ). refuse_if (ltb 60 (length rec)) (refused 52) (accepted (length rec))) inlet_opens
