-- "After any calls on an opened tally that nothing else writes, its leasts equal those worked out afresh from the present counts with that
-- limit."
use Rattle.std.specs.Prelude.{◌≡◌, ℕ, Bool, cond, List, [], ◌∷◌, eqb, set}
use Rattle.fold.specs.Sum.{sum}
use Rattle.limit.specs.Limit.{table_size}
use Rattle.words.specs.Checks.{refuse_as}
use Rattle.arrays.specs.Arrays.{at}
use Rattle.sheet.specs.Sheet.{read_sheet}
use Rattle.sheet.specs.Table.{table_in}
use Rattle.sheet.specs.Totals.{totals_of}
use Rattle.tree.specs.Least.{holds}
use Rattle.weigh.specs.Weigh.{refused, weighed}
use Rattle.tally.specs.declared.Tally.{Tally}
use Rattle.tally.specs.Call.{Call, cell_of, counted, call_number}
use Rattle.tally.specs.Tally.{tally_of, helpands_in, opened, tally_after, call_answer}

-- the tally after a list of calls
unfoldable pub after_calls : Tally → List Call → Tally
after_calls t [] = t
after_calls t (c ∷ calls) = after_calls (tally_after t c) calls

-- ---- the present counts, with no word of a tally: those of a sheet of n nodes, with every accepted call applied in order

abbrev pub number_on : ℕ → List ℕ → Call → ℕ
number_on n counts c = call_number n (at counts (cell_of c)) (sum table_size (at counts)) c

unfoldable pub counts_after : ℕ → List ℕ → Call → List ℕ
counts_after n counts c =
    cond (eqb (number_on n counts c) 0) (set counts (cell_of c) (counted c.adds c.count (at counts (cell_of c)))) counts

unfoldable pub present_counts : ℕ → List ℕ → List Call → List ℕ
present_counts n counts [] = counts
present_counts n counts (c ∷ calls) = present_counts n (counts_after n counts c) calls

-- ---- what is shown of a sheet s and a plan p that open a tally, after any calls

abbrev pub present_in : List ℕ → List Call → List ℕ
present_in s calls = present_counts (read_sheet s).n (table_in s) calls

-- whether the plan's tree holds with the totals of these counts, under the opening sheet's limit
abbrev pub holds_with : List ℕ → List ℕ → List ℕ → Bool
holds_with s p counts =
    holds (read_sheet s).n (at (helpands_in s p)) (at (totals_of (read_sheet s).n counts)) (read_sheet s).limit

pub record Follows (s p : List ℕ) (calls : List Call) : Type 0 where
  -- the tally is that of the present counts, with the opening sheet's limit
  pub tally : after_calls (opened s p) calls ≡ tally_of (read_sheet s).n (read_sheet s).limit (helpands_in s p) (present_in s calls)
  -- the next call is refused as the present counts say, and otherwise answers whether the tree holds with the counts after it
  pub answer : (c : Call) → call_answer (after_calls (opened s p) calls) c
      ≡ refuse_as refused (number_on (read_sheet s).n (present_in s calls) c)
      (weighed (holds_with s p (counts_after (read_sheet s).n (present_in s calls) c)))
