-- Document 01, *Carry out*: its checks up to 42. They are those of request 2026-04, too: "those of *carry out* up to 42".
use Rattle.std.specs.Prelude.{ℕ, List, Bool, not, eqb}
use Rattle.words.specs.Checks.{refuse_if, refuse_as}
use Rattle.sheet.specs.Sheet.{read_sheet, refusal_number as sheet_number}
use Rattle.sheet.specs.Table.{table_in}
use Rattle.moves.specs.Moves.{read_moves, routes_of, counts_of, refusal_number as moves_number}
use Rattle.transfer.specs.Apply.{sends_within}
use Rattle.carry.specs.declared.check.CheckRefusal.{CheckRefusal}
use Rattle.carry.specs.declared.check.CheckRefusal.TheVariants.{Sheet as OfSheet, Moves as OfMoves, NodesDiffer, Sends}

-- the paper's number of each refusal: "the sheet's; the moves'; 41, N differ; 42, some cell sends in all more than the old sheet gives
-- it"
abbrev pub check_number : CheckRefusal → ℕ
check_number (OfSheet r) = sheet_number r
check_number (OfMoves r) = moves_number r
check_number NodesDiffer = 41
check_number Sends = 42

-- ---- of a sheet s and moves m

-- the moves' two arrays
abbrev pub routes_in : List ℕ → List ℕ
routes_in m = routes_of m (read_moves m).e

abbrev pub counts_in : List ℕ → List ℕ
counts_in m = counts_of m (read_moves m).e

-- not "42, some cell sends in all more than the old sheet gives it"
abbrev pub within_in : List ℕ → List ℕ → Bool
within_in s m = sends_within (table_in s) (routes_in m) (counts_in m)

-- the checks, in the order written: the number of the first that refuses, or 0
unfoldable pub checked : List ℕ → List ℕ → ℕ
checked s m =
    refuse_as (λ k. k) (read_sheet s).refusal
    (refuse_as (λ k. k) (read_moves m).refusal
    (refuse_if (not (eqb (read_sheet s).n (read_moves m).n)) 41
    (refuse_if (not (within_in s m)) 42 0)))
