-- What the inner functions of this crate ask of each other. No promise to a caller rests on these definitions.
use Rattle.std.specs.Prelude.{◌≡◌, List, ℕ, ◌+◌, ◌≤◌, ◌<◌, length}
use Rattle.arrays.specs.Arrays.{at}
use Rattle.limit.specs.Limit.{max_total, table_size}
use Rattle.sheet.specs.declared.Sheet.{Sheet}
use Rattle.sheet.specs.Sheet.{read_sheet, accepted}
use Rattle.sheet.specs.Table.{table_of}
use Rattle.sheet.specs.Inner.{Unpackable}

-- what adding the e entries of sheet s to a table asks: they can be unpacked, and no cell comes to more than a sheet's sum
pub record Addable (table s : List ℕ) (n e : ℕ) : Type 0 where
  pub size : length table ≡ table_size
  pub entries : Unpackable s n e
  pub room : (c : ℕ) → c < table_size → at table c + at (table_of s e) c ≤ max_total

-- the two sheets were read as these
pub record SheetsRead (f s : List ℕ) (a b : Sheet) : Type 0 where
  pub first : accepted a.n a.t a.e a.p a.limit ≡ read_sheet f
  pub second : accepted b.n b.t b.e b.p b.limit ≡ read_sheet s
