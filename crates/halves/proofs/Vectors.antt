-- Lists that the request is about, and one that it is not about, computed. Assumes nothing.
use mathlib.Core.Path.{◌≡◌, refl}
use mathlib.Core.Bool.{Bool}
use mathlib.Core.List.{List, [], ◌∷◌}
use Prim.Native.Nat.{ℕ}
use lib.Dec.{eqb}
use Rattle.fold.specs.All.{every}
use Rattle.fold.specs.Collect.{collect}
use Rattle.fold.specs.Rising.{rising}
use Rattle.limit.specs.Limit.{limit_of}
use Rattle.words.specs.Words.{words, encode}
use Rattle.arrays.specs.Arrays.{tabulate}
use Rattle.sheet.specs.Sheet.{running_sum, read_header, read_sheet}
use Rattle.sheet.specs.Table.{count_at, counts_from, table_of}
use Rattle.moves.specs.Moves.{read_moves}
use Rattle.moves.specs.Write.{moves_bytes}
use Rattle.transfer.specs.Apply.{moved, within_from}
use Rattle.carry.specs.Checks.{checked}
use Rattle.halves.specs.Parts.{entries, chosen, part_of, others, Parts}
use Rattle.halves.proofs.BySubdomains.{by_subdomains}

-- the sheet and the moves of step E: 1 from 2 to 0 in subdomain 0, and 3 from 0 to 2 in subdomain 2
abbrev sheet : List ℕ
sheet = encode (3 ∷ 100 ∷ 6 ∷ 0 ∷ 2 ∷ 64 ∷ 65 ∷ 128 ∷ 130 ∷ 30 ∷ 3 ∷ 27 ∷ 6 ∷ 30 ∷ 4 ∷ [])

abbrev moves : List ℕ
moves = encode (3 ∷ 2 ∷ 128 ∷ 8194 ∷ 1 ∷ 3 ∷ [])

-- the same with 31 of the 30 that node 2 has
abbrev too_many : List ℕ
too_many = encode (3 ∷ 2 ∷ 128 ∷ 8194 ∷ 31 ∷ 3 ∷ [])

-- subdomain 0 first
abbrev early : ℕ → Bool
early n = eqb n 0

pub parts-met : Parts sheet moves (part_of early moves) (part_of (others early) moves)
    × Parts sheet too_many (part_of early too_many) (part_of (others early) too_many)
unfolding words encode read_sheet read_header rising every running_sum limit_of read_moves
parts-met = (by_subdomains early sheet moves refl refl refl, by_subdomains early sheet too_many refl refl refl)

-- the records of the two parts
pub parts_are : (part_of early moves ≡ encode (3 ∷ 1 ∷ 128 ∷ 1 ∷ [])) × (part_of (others early) moves ≡ encode (3 ∷ 1 ∷ 8194 ∷ 3 ∷ []))
unfolding words encode moves_bytes entries chosen
parts_are = (refl, refl)

-- on both sides of 42: the whole, and each part on the first sheet
pub checks_are : (checked sheet moves ≡ 0) × (checked sheet (part_of early moves) ≡ 0) × (checked sheet (part_of (others early) moves) ≡ 0)
    × (checked sheet too_many ≡ 42) × (checked sheet (part_of early too_many) ≡ 42) × (checked sheet (part_of (others early) too_many) ≡ 0)
unfolding words encode moves_bytes entries chosen read_sheet read_header rising every running_sum limit_of table_of counts_from count_at tabulate
    collect read_moves moved within_from checked
checks_are = (refl, refl, refl, refl, refl, refl)

-- Two lists that share a subdomain are outside the request: node 0 has 30 of subdomain 0, and sends 20 to node 1 and 20 to node 2. The
-- whole is refused with 42, and neither list is.
pub shared_subdomain : (checked sheet (encode (3 ∷ 2 ∷ 1 ∷ 2 ∷ 20 ∷ 20 ∷ [])) ≡ 42) × (checked sheet (encode (3 ∷ 1 ∷ 1 ∷ 20 ∷ [])) ≡ 0)
    × (checked sheet (encode (3 ∷ 1 ∷ 2 ∷ 20 ∷ [])) ≡ 0)
unfolding words encode read_sheet read_header rising every running_sum limit_of table_of counts_from count_at tabulate collect read_moves moved
    within_from checked
shared_subdomain = (refl, refl, refl)
