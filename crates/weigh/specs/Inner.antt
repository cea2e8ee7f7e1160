-- What the inner functions of this crate ask of each other. No promise to a caller rests on these definitions.
use Rattle.std.specs.Prelude.{◌≡◌, ◌≢◌, List, ℕ, Err, Ok, Result}
use Rattle.sheet.specs.declared.Sheet.{Sheet}
use Rattle.sheet.specs.Sheet.{read_sheet, accepted as sheet_accepted}
use Rattle.plan.specs.Plan.{read_plan}
use Rattle.weigh.specs.Checks.{check_number, checked}
use Rattle.weigh.specs.declared.check.CheckRefusal.{CheckRefusal}

-- the sheet was read as this, and the plan has a tree of as many nodes
pub record Weighable (s p : List ℕ) (h : Sheet) : Type 0 where
  pub sheet : sheet_accepted h.n h.t h.e h.p h.limit ≡ read_sheet s
  pub plan : (read_plan p).refusal ≡ 0
  pub nodes : (read_plan p).n ≡ h.n
  pub kind : (read_plan p).kind ≢ 0

-- what reading both gives: they can be weighed, or the number of the first check up to 24 that refuses
abbrev pub PairRead : List ℕ → List ℕ → Result Sheet CheckRefusal → Type 0
PairRead s p (Ok h) = Weighable s p h
PairRead s p (Err r) = check_number r ≡ checked s p
