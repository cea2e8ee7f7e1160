-- Document 01, 'Deciding': the totals.
use Rattle.std.specs.Prelude.{ℕ, List}
use Rattle.fold.specs.Sum.{sum}
use Rattle.arrays.specs.Arrays.{tabulate}
use Rattle.sheet.specs.Sheet.{read_sheet}
use Rattle.sheet.specs.Table.{table_in, held}

-- "Pn is the sum of all counts for subdomain n, whoever holds them."
abbrev pub total_of : ℕ → List ℕ → ℕ → ℕ
total_of nodes table n = sum nodes (λ k. held table k n)

-- the totals of all subdomains
abbrev pub totals_of : ℕ → List ℕ → List ℕ
totals_of nodes table = tabulate nodes (total_of nodes table)

-- the totals of an accepted sheet's subdomains
abbrev pub totals_in : List ℕ → List ℕ
totals_in s = totals_of (read_sheet s).n (table_in s)
