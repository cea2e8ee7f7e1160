-- Where a tally has its numbers: behind its head lie the totals of 64 nodes, their leasts, and 4,096 counts. In C these are three arrays.
use Rattle.std.specs.Prelude.{ℕ, ◌+◌, List, ◌++◌}
use Rattle.arrays.specs.Arrays.{at}

abbrev pub total_at : List ℕ → ℕ → ℕ
total_at cells n = at cells n

abbrev pub least_at : List ℕ → ℕ → ℕ
least_at cells n = at cells (64 + n)

abbrev pub count_at : List ℕ → ℕ → ℕ
count_at cells c = at cells (128 + c)

-- the three laid out
abbrev pub laid : List ℕ → List ℕ → List ℕ → List ℕ
laid totals leasts counts = totals ++ (leasts ++ counts)

abbrev pub cells_size : ℕ
cells_size = 4224
