-- Document 01, *Weigh*: its checks up to 24. They are those of request 2026-08, too: "opening has those of *weigh* up to 24".
use Rattle.std.specs.Prelude.{ℕ, List, not, eqb}
use Rattle.words.specs.Checks.{refuse_if, refuse_as}
use Rattle.sheet.specs.Sheet.{read_sheet, refusal_number as sheet_number}
use Rattle.plan.specs.Plan.{read_plan, refusal_number as plan_number}
use Rattle.weigh.specs.declared.check.CheckRefusal.{CheckRefusal}
use Rattle.weigh.specs.declared.check.CheckRefusal.TheVariants.{Sheet as OfSheet, Plan as OfPlan, NodesDiffer, Primary}

-- the paper's number of each refusal: "the sheet's; the plan's; 21, their N differ; 24, kind 0"
abbrev pub check_number : CheckRefusal → ℕ
check_number (OfSheet r) = sheet_number r
check_number (OfPlan r) = plan_number r
check_number NodesDiffer = 21
check_number Primary = 24

-- the checks of a sheet s and a plan p, in the order written: the number of the first that refuses, or 0
unfoldable pub checked : List ℕ → List ℕ → ℕ
checked s p =
    refuse_as (λ k. k) (read_sheet s).refusal
    (refuse_as (λ k. k) (read_plan p).refusal
    (refuse_if (not (eqb (read_sheet s).n (read_plan p).n)) 21
    (refuse_if (eqb (read_plan p).kind 0) 24 0)))
