-- Demand 3, as document 01 says it in 'Divisions and the rival', about bytes: a sheet, an old plan, and what *plan a step* and then
-- *carry out* leave in three lent buffers. Nothing here speaks of how a tree is weighed or a division found, nor of how a plan, moves or
-- a sheet is written.
use Rattle.std.specs.Prelude.{◌≡◌, ◌≢◌, ◌⊎◌, ◌↔◌, List, ℕ, ◌≤◌, ◌<◌, length, take}
use Rattle.arrays.specs.Arrays.{at}
use Rattle.sheet.specs.Sheet.{read_sheet}
use Rattle.sheet.specs.Table.{table_in, held}
use Rattle.sheet.specs.Totals.{totals_in}
use Rattle.sheet.specs.Write.{longest_sheet}
use Rattle.plan.specs.Tree.{Tree}
use Rattle.plan.specs.Plan.{read_plan, helpands_of, shares_of, accepted as plan_accepted}
use Rattle.plan.specs.Write.{plan_length}
use Rattle.moves.specs.Write.{longest_moves}
use Rattle.tree.specs.Division.{WithinLimit, OnTarget, own_of}
use Rattle.rebuild.specs.Target.{target_of}
use Rattle.transfer.specs.Due.{due_of}
use Rattle.planner.specs.declared.StepAnswer.{StepAnswer}
use Rattle.words.specs.declared.WrittenAnswer.{WrittenAnswer}

-- ---- what the demand is about

-- "every accepted sheet with a subdomain above the limit"
pub record Overloaded (s : List ℕ) : Type 0 where
  pub accepted : (read_sheet s).refusal ≡ 0
  pub above : (n : ℕ) × (n < (read_sheet s).n) × ((read_sheet s).limit < at (totals_in s) n)

-- "An accepted tree is the helpands of a plan that *read plan* accepts with kind 1 or 2", of as many nodes as the sheet. "That plan's
-- shares and limit play no part".
pub record AcceptedTree (s o : List ℕ) : Type 0 where
  pub accepted : (read_plan o).refusal ≡ 0
  pub nodes : (read_plan o).n ≡ (read_sheet s).n
  pub kind : (read_plan o).kind ≢ 0

-- "An empty or kind 0 old plan has no old tree."
pub record PrimaryPlan (s o : List ℕ) : Type 0 where
  pub accepted : (read_plan o).refusal ≡ 0
  pub nodes : (read_plan o).n ≡ (read_sheet s).n
  pub kind : (read_plan o).kind ≡ 0

abbrev pub NoTree : List ℕ → List ℕ → Type 0
NoTree s o = (length o ≡ 0) ⊎ PrimaryPlan s o

-- "a buffer long enough": for the plan of N nodes 4 × (3+2N) bytes, for the most moves 4 × (2+2N(N−1)), and for the longest sheet
-- 4 × (3+2N²)
pub record LongEnough (s p m x : List ℕ) : Type 0 where
  pub plan : plan_length (read_sheet s).n ≤ length p
  pub moves : longest_moves (read_sheet s).n ≤ length m
  pub next : longest_sheet (read_sheet s).n ≤ length x

-- ---- divisions

-- "A rival's division is one along the old tree with every load at most L, however it was found", and "L is the sheet's"
abbrev pub Rival : List ℕ → List ℕ → Type 0
Rival s o =
    (own : ℕ → ℕ) × (share : ℕ → ℕ)
    × WithinLimit (read_sheet s).n (at (helpands_of o (read_sheet s).n)) (at (totals_in s)) (read_sheet s).limit own share

-- "A plan gives each helper its share"
abbrev pub helpand : List ℕ → List ℕ → ℕ → ℕ
helpand s plan = at (helpands_of plan (read_sheet s).n)

abbrev pub share : List ℕ → List ℕ → ℕ → ℕ
share s plan = at (shares_of plan (read_sheet s).n)

-- "and each owner Pn less its helpers' shares"
abbrev pub own : List ℕ → List ℕ → ℕ → ℕ
own s plan = own_of (read_sheet s).n (helpand s plan) (at (totals_in s)) (share s plan)

-- "There is a target for every node"
abbrev pub target : List ℕ → ℕ → ℕ
target s = target_of (read_sheet s).n (read_sheet s).p

-- what node k is due of subdomain n: "due amounts are those of that plan"
abbrev pub due : List ℕ → List ℕ → ℕ → ℕ → ℕ
due s plan = due_of (read_sheet s).n (helpand s plan) (at (totals_in s)) (share s plan)

-- ---- the demand, of the plan that was written and of the sheet that follows

pub record Balanced (s o plan next : List ℕ) (kind : ℕ) : Type 0 where
  -- the plan is accepted, and carries the sheet's N and limit
  pub plan_read : read_plan plan ≡ plan_accepted (read_sheet s).n kind (read_sheet s).limit
  -- the tree is kept exactly when a rival's division exists, and rebuilt otherwise
  pub kept : AcceptedTree s o → (kind ≡ 1) ↔ Rival s o
  pub none : NoTree s o → kind ≡ 2
  pub otherwise : (kind ≡ 1) ⊎ (kind ≡ 2)
  -- "in kind 1, which has the old helpands, a rival's division"
  pub kept_helpands : kind ≡ 1 → helpands_of plan (read_sheet s).n ≡ helpands_of o (read_sheet s).n
  pub kept_division : kind ≡ 1
      → WithinLimit (read_sheet s).n (helpand s plan) (at (totals_in s)) (read_sheet s).limit (own s plan) (share s plan)
  -- "in kind 2, one with every load equal to the node's target"
  pub rebuilt_tree : kind ≡ 2 → (r : ℕ) × Tree (read_sheet s).n (helpand s plan) r
  pub rebuilt_division : kind ≡ 2
      → OnTarget (read_sheet s).n (helpand s plan) (at (totals_in s)) (target s) (own s plan) (share s plan)
  -- "in the sheet that it writes, each node's count of each subdomain is its due amount"
  pub next_read : ((read_sheet next).refusal ≡ 0) × ((read_sheet next).n ≡ (read_sheet s).n)
  pub amounts : (k n : ℕ) → k < (read_sheet s).n → n < (read_sheet s).n → held (table_in next) k n ≡ due s plan n k

-- the answers a and c of the two operations, with the buffers of the plan and of the sheet that follows as they are then
pub record Claim (s o : List ℕ) (a : StepAnswer) (c : WrittenAnswer) (plan next : List ℕ) : Type 0 where
  pub planned : a.refusal ≡ 0
  pub carried : c.refusal ≡ 0
  pub balanced : Balanced s o (take a.plan plan) (take c.bytes next) a.kind

-- DEMAND 3. For every accepted sheet with a subdomain above the limit and every accepted tree of as many nodes, or none, and buffers
-- p, m and x long enough
abbrev pub Demand3 : List ℕ → List ℕ → List ℕ → List ℕ → List ℕ → StepAnswer → WrittenAnswer → List ℕ → List ℕ → Type 0
Demand3 s o p m x a c plan next = Overloaded s → AcceptedTree s o ⊎ NoTree s o → LongEnough s p m x → Claim s o a c plan next
