-- Request 2026-08, 'Arrivals between steps': "A tally is opened from a sheet and a plan of kind 1 or 2; its limit stays that of the opening
-- sheet. The open tally is lent to each call, which adds or removes a count in a cell, named by holder and subdomain, and says whether the
-- tree holds." *Tally* is the request's word.
use Rattle.std.specs.Prelude.{ℕ, suc, ◌+◌, Bool, not, ◌&&◌, List, eqb, leb, set, replicate, Result}
use Rattle.fold.specs.Sum.{sum}
use Rattle.fold.specs.All.{all}
use Rattle.limit.specs.Limit.{max_nodes, table_size}
use Rattle.words.specs.Checks.{refuse_if, refuse_as}
use Rattle.arrays.specs.Arrays.{at, padded, tabulate}
use Rattle.sheet.specs.Sheet.{read_sheet}
use Rattle.sheet.specs.Table.{table_in}
use Rattle.sheet.specs.Totals.{totals_of}
use Rattle.plan.specs.Tree.{helpands_below}
use Rattle.plan.specs.Plan.{helpands_of}
use Rattle.tree.specs.Least.{least}
use Rattle.weigh.specs.declared.WeighAnswer.{WeighAnswer}
use Rattle.weigh.specs.Checks.{check_number, checked}
use Rattle.weigh.specs.Weigh.{refused, weighed, holds_in, answer_in}
use Rattle.tally.specs.declared.TallyRefusal.{TallyRefusal}
use Rattle.tally.specs.declared.TallyRefusal.TheVariants.{Check, NoCell, TooFew, TooMany}
use Rattle.tally.specs.declared.Head.{Head}
use Rattle.tally.specs.declared.Tally.{Tally}
use Rattle.tally.specs.declared.Opened.{Opened}
use Rattle.tally.specs.declared.Called.{Called}
use Rattle.tally.specs.Call.{Call, cell_of, counted, call_number}
use Rattle.tally.specs.Layout.{total_at, least_at, count_at, laid, cells_size}
use Rattle.tally.specs.Renew.{renewed}

-- ---- answers: *weigh*'s, a number and whether the tree holds

-- the paper's number of each refusal
abbrev pub number_of : TallyRefusal → ℕ
number_of (Check r) = check_number r
number_of NoCell = 58
number_of TooFew = 59
number_of TooMany = 60

-- the paper's number and values for each case of the enum
abbrev pub answer_of : Result Bool TallyRefusal → WeighAnswer
answer_of = answer_in number_of

-- ---- the tally of counts: totals and leasts "worked out afresh from the present counts with that limit"

unfoldable pub tally_of : ℕ → ℕ → List ℕ → List ℕ → Tally
tally_of n limit helpands counts = record {
  head = record { n = n; limit = limit; total = sum table_size (at counts); helpands = helpands };
  cells = laid (totals_of n counts) (tabulate n (least n (at helpands) (at (totals_of n counts)) limit)) counts;
}

-- ---- opening, from a sheet s and a plan p: "opening has those of *weigh* up to 24"

unfoldable pub open_answer : List ℕ → List ℕ → WeighAnswer
open_answer s p = refuse_as refused (checked s p) (weighed (holds_in s p))

-- "A refused opening gives a tally with N 0": everything else in it is 0, too
unfoldable pub no_tally : Tally
no_tally = record {
  head = record { n = 0; limit = 0; total = 0; helpands = replicate 64 0 };
  cells = replicate cells_size 0;
}

-- the helpands of an accepted plan beside a sheet of as many nodes
abbrev pub helpands_in : List ℕ → List ℕ → List ℕ
helpands_in s p = padded (helpands_of p (read_sheet s).n)

unfoldable pub opened : List ℕ → List ℕ → Tally
opened s p = refuse_if (not (eqb (checked s p) 0)) no_tally (tally_of (read_sheet s).n (read_sheet s).limit (helpands_in s p) (table_in s))

-- ---- a call, on whatever the tally holds

-- what a call relies on, in a tally that may hold anything; every tally has it that an opening and calls have given
abbrev pub usable : Tally → Call → Bool
usable t c =
    let has = count_at t.cells (cell_of c) in
    let own = total_at t.cells c.subdomain in
    leb t.head.n max_nodes && (helpands_below t.head.n (at t.head.helpands) && (leb has own && leb own t.head.total))

-- its checks; a tally that no opening and calls can have given is refused with 58, as one that has no such cell
unfoldable pub number_in : Tally → Call → ℕ
number_in t c = refuse_if (not (usable t c)) 58 (call_number t.head.n (count_at t.cells (cell_of c)) t.head.total c)

-- a head with another total: "its limit stays"
abbrev pub with_total : Head → ℕ → Head
with_total h total = record { n = h.n; limit = h.limit; total = total; helpands = h.helpands }

-- the count of the cell and the total of its subdomain after an accepted call
abbrev pub counted_cells : List ℕ → Call → List ℕ
counted_cells cells c =
    let count = counted c.adds c.count (count_at cells (cell_of c)) in
    let total = counted c.adds c.count (total_at cells c.subdomain) in
    set (set cells (128 + cell_of c) count) c.subdomain total

-- and the leasts renewed
unfoldable pub cells_after : Head → List ℕ → Call → List ℕ
cells_after h cells c = renewed h.n (at h.helpands) h.limit (suc h.n) c.subdomain (counted_cells cells c)

-- the tally after an accepted call
unfoldable pub changed : Tally → Call → Tally
changed t c = record {
  head = with_total t.head (counted c.adds c.count t.head.total);
  cells = cells_after t.head t.cells c;
}

-- the tally after any call: "A refused call alters nothing."
unfoldable pub tally_after : Tally → Call → Tally
tally_after t c = refuse_if (not (eqb (number_in t c) 0)) t (changed t c)

-- whether the tree holds, by the leasts of a tally: "The tree holds if no least is above L."
abbrev pub holding : ℕ → ℕ → List ℕ → Bool
holding n limit cells = all n (λ k. leb (least_at cells k) limit)

-- a call "says whether the tree holds"
unfoldable pub call_answer : Tally → Call → WeighAnswer
call_answer t c = refuse_as refused (number_in t c) (weighed (holding t.head.n t.head.limit (changed t c).cells))

-- ---- the same in two parts, as the program has them: the head by value, and the cells where they lie

abbrev pub tally_with : Head → List ℕ → Tally
tally_with head cells = record { head = head; cells = cells }

abbrev pub open_result : List ℕ → List ℕ → Opened
open_result s p = record { answer = open_answer s p; head = (opened s p).head }

-- of the head a call changes the total alone
abbrev pub call_result : Tally → Call → Called
call_result t c = record { answer = call_answer t c; total = (tally_after t c).head.total }
