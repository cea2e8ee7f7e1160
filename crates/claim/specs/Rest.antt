-- Request 2026-03 of a plan in bytes: what is seen in a plan with a kept tree, beside the sheet that it was made for.
use Rattle.std.specs.Prelude.{List, ℕ}
use Rattle.arrays.specs.Arrays.{at}
use Rattle.sheet.specs.Sheet.{read_sheet}
use Rattle.sheet.specs.Table.{table_in, held}
use Rattle.sheet.specs.Totals.{totals_in}
use Rattle.plan.specs.Plan.{helpands_of}
use Rattle.shares.specs.Levelled.{RestLevelled}
use Rattle.decide.specs.Decide.{leasts_of}
use Rattle.claim.specs.Claim.{helpand, share}

-- the leasts in the plan's tree: of the sheet's totals, with the sheet's limit
abbrev pub leasts : List ℕ → List ℕ → ℕ → ℕ
leasts s plan = at (leasts_of (read_sheet s).n (helpands_of plan (read_sheet s).n) (totals_in s) (read_sheet s).limit)

-- in each family, whoever was given a particle stands at most one above a member that still has space, and not above one of lower number
abbrev pub RestLevelledIn : List ℕ → List ℕ → Type 0
RestLevelledIn s plan =
    RestLevelled (read_sheet s).n (helpand s plan) (read_sheet s).limit (leasts s plan) (at (totals_in s)) (held (table_in s)) (share s plan)
