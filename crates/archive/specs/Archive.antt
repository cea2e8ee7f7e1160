-- Request 2026-05: the record, *write archive* and *read archive*. "The archive wants every sheet at one size, with neighbouring cells
-- close together. Write N, t and then 4,096 counts (16,392 bytes)."
use Rattle.std.specs.Prelude.{◌≡◌, Bool, not, ◌||◌, List, [], ◌∷◌, ℕ, zero, suc, ◌+◌, ◌<◌, eqb, ltb, length, get_or, set, replicate, Err, Ok, Result}
use Rattle.fold.specs.All.{all}
use Rattle.fold.specs.Collect.{collect}
use Rattle.fold.specs.Sum.{sum}
use Rattle.limit.specs.Limit.{max_nodes, max_tolerance, max_total, table_size, one_to, limit_of}
use Rattle.arrays.specs.Arrays.{at}
use Rattle.words.specs.Checks.{refuse_if, refuse_as}
use Rattle.words.specs.Words.{words, encode}
use Rattle.words.specs.Buffer.{after_call}
use Rattle.words.specs.Answer.{refused, accepted, answer_of}
use Rattle.words.specs.declared.WrittenAnswer.{WrittenAnswer}
use Rattle.sheet.specs.Sheet.{read_sheet, cell_fine, refusal_number as sheet_number}
use Rattle.sheet.specs.Table.{table_in, held}
use Rattle.sheet.specs.Write.{sheet_bytes}
use Rattle.archive.specs.ZOrder.{position, position_of}
use Rattle.archive.specs.declared.write.Archived.{Archived}
use Rattle.archive.specs.declared.write.WriteRefusal.{WriteRefusal}
use Rattle.archive.specs.declared.write.WriteRefusal.TheVariants.{Sheet as OfSheet, Buffer as WriteBuffer}
use Rattle.archive.specs.declared.read.ReadRefusal.{ReadRefusal}
use Rattle.archive.specs.declared.read.ReadRefusal.TheVariants.{Length, Nodes, Tolerance, Count, Buffer as ReadBuffer}

-- ---- answers: the paper's number of each refusal, and its number and values for each case of the enums

abbrev pub write_number : WriteRefusal → ℕ
write_number (OfSheet r) = sheet_number r
write_number WriteBuffer = 56

abbrev pub read_number : ReadRefusal → ℕ
read_number Length = 54
read_number Nodes = 2
read_number Tolerance = 3
read_number Count = 55
read_number ReadBuffer = 56

-- "(16,392 bytes)"
abbrev pub archive_size : ℕ
archive_size = 16392

abbrev pub writing_of : Result Archived WriteRefusal → WrittenAnswer
writing_of (Ok _) = accepted archive_size
writing_of (Err r) = refused (write_number r)

abbrev pub reading_of : Result ℕ ReadRefusal → WrittenAnswer
reading_of = answer_of read_number

-- ---- the record: "Write N, t and then 4,096 counts"

-- 4,096 counts of 0
unfoldable pub no_counts : List ℕ
no_counts = replicate table_size 0

-- the counts of a table's cells below n, each at its cell's position, and 0 at the other positions
unfoldable pub in_order : List ℕ → ℕ → List ℕ
in_order table zero = no_counts
in_order table (suc n) = set (in_order table n) (position_of n) (at table n)

unfoldable pub archive_bytes : ℕ → ℕ → List ℕ → List ℕ
archive_bytes n t table = encode (n ∷ t ∷ in_order table table_size)

-- ---- *write archive*, with a buffer of so many bytes: "writing has the sheet's, then 56 for a short buffer"

unfoldable pub write_answer : List ℕ → ℕ → WrittenAnswer
write_answer s size =
    refuse_as refused (read_sheet s).refusal
    (refuse_if (ltb size archive_size) (refused 56)
    (accepted archive_size))

-- the archive of an accepted sheet
unfoldable pub archive_of : List ℕ → List ℕ
archive_of s = archive_bytes (read_sheet s).n (read_sheet s).t (table_in s)

-- the buffer afterwards
abbrev pub archive_after : List ℕ → List ℕ → List ℕ
archive_after s out = after_call (write_answer s (length out)).refusal (archive_of s) out

-- ---- what stands in an archive

abbrev pub nodes_in : List ℕ → ℕ
nodes_in a = get_or (words a) 0 0

abbrev pub tolerance_in : List ℕ → ℕ
tolerance_in a = get_or (words a) 1 0

-- the count at a position
abbrev pub count_in : List ℕ → ℕ → ℕ
count_in a p = get_or (words a) (2 + p) 0

-- the table of its counts, from cell to cell
unfoldable pub table_from : List ℕ → List ℕ
table_from a = collect table_size (λ c. count_in a (position_of c) ∷ [])

-- the sum of all counts
abbrev pub total_in : List ℕ → ℕ
total_in a = sum table_size (at (table_from a))

-- ---- *read archive*: "reading has 54 for another length, 2, 3, 55 for a count above 0 at a node not below N or a sum above the maximum,
-- then 56"

-- no "count above 0 at a node not below N", whether it is the holder or the owner of the subdomain
abbrev pub counts_fine : ℕ → List ℕ → Bool
counts_fine n table = all table_size (λ c. cell_fine n c || eqb (at table c) 0)

-- the sheet that comes out
unfoldable pub sheet_from : List ℕ → List ℕ
sheet_from a = sheet_bytes (nodes_in a) (tolerance_in a) (table_from a)

-- from 55 on
unfoldable pub counts_answer : List ℕ → ℕ → WrittenAnswer
counts_answer a size =
    refuse_if (not (counts_fine (nodes_in a) (table_from a))) (refused 55)
    (refuse_if (ltb max_total (total_in a)) (refused 55)
    (refuse_if (ltb size (length (sheet_from a))) (refused 56)
    (accepted (length (sheet_from a)))))

unfoldable pub read_answer : List ℕ → ℕ → WrittenAnswer
read_answer a size =
    refuse_if (not (eqb (length a) archive_size)) (refused 54)
    (refuse_if (not (one_to max_nodes (nodes_in a))) (refused 2)
    (refuse_if (not (one_to max_tolerance (tolerance_in a))) (refused 3)
    (counts_answer a size)))

-- the buffer afterwards
abbrev pub sheet_after : List ℕ → List ℕ → List ℕ
sheet_after a out = after_call (read_answer a (length out)).refusal (sheet_from a) out

-- ---- demand 2: what an archive and its sheet have in common, whichever of them was made from the other

pub record Keeps (s a : List ℕ) : Type 0 where
  pub nodes : nodes_in a ≡ (read_sheet s).n
  pub tolerance : tolerance_in a ≡ (read_sheet s).t
  pub total : total_in a ≡ (read_sheet s).p
  pub limit : limit_of (total_in a) (nodes_in a) (tolerance_in a) ≡ (read_sheet s).limit
  -- each count, at the position that the rule gives it: "Cells absent from the sheet count as 0"
  pub counts : (holder subdomain : ℕ) → holder < 64 → subdomain < 64
      → count_in a (position holder subdomain) ≡ held (table_in s) holder subdomain
