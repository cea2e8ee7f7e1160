-- The checks up to 24: one law for each way out, what they say together, and what is known of a sheet and a plan that passed them.
-- Assumes nothing.
use mathlib.Core.Path.{◌≡◌, sym, ap, ◌∙◌}
use mathlib.Core.Logic.{◌≢◌}
use mathlib.Core.Bool.{true}
use mathlib.Core.List.{List}
use Prim.Native.Nat.{ℕ, ◌≤◌}
use native.Mathlib.Omega.{arith}
use Rattle.std.proofs.lemmas.Bool.Decides.{nat_tests}
use borrow.Author.Tests.{eq-eqb, ne_eqb}
use lib.Dec.{eqb}
use Rattle.fold.specs.Sum.{sum}
use Rattle.limit.specs.Limit.{max_total, table_size}
use Rattle.arrays.specs.Arrays.{padded, at}
use Rattle.arrays.proofs.Padded.{padded-same}
use Rattle.sheet.specs.declared.Sheet.{Sheet}
use Rattle.sheet.specs.Sheet.{read_sheet, accepted as sheet_accepted}
use Rattle.sheet.specs.Table.{table_of}
use Rattle.sheet.proofs.Accepted.{Accepted as AcceptedSheet, reading_accepted}
use Rattle.sheet.proofs.Refusals.{sheet-most}
use Rattle.sheet.proofs.Tables.{table-within}
use Rattle.plan.specs.declared.PlanAnswer.{PlanAnswer}
use Rattle.plan.specs.Tree.{Tree}
use Rattle.plan.specs.Plan.{read_plan, helpands_of, accepted as plan_accepted}
use Rattle.plan.proofs.AcceptedTree.{accepted-tree}
use Rattle.plan.proofs.Refusals.{plan-most}
use Rattle.weigh.specs.declared.check.CheckRefusal.{CheckRefusal}
use Rattle.weigh.specs.Checks.{check_number, checked}
use Rattle.weigh.specs.Inner.{Weighable, PairRead}
use Rattle.std.specs.Prelude.{Err, Ok, Result}

-- ---- the ways out

module _ (s p : List ℕ) where
  pub stops_sheet : (k : ℕ) → k ≡ (read_sheet s).refusal → k ≢ 0 → k ≡ checked s p
  unfolding checked
  stops_sheet k e d = rw (← e, ne_eqb k 0 d)

  pub stops_plan : 0 ≡ (read_sheet s).refusal → (k : ℕ) → k ≡ (read_plan p).refusal → k ≢ 0 → k ≡ checked s p
  unfolding checked
  stops_plan z k e d = rw (← z, ← e, ne_eqb k 0 d)

  -- both were read
  module _ {h : Sheet} {n kind limit : ℕ} (a : sheet_accepted h.n h.t h.e h.p h.limit ≡ read_sheet s)
      (b : plan_accepted n kind limit ≡ read_plan p) where
    pub stops_differ : h.n ≢ n → 21 ≡ checked s p
    unfolding checked
    stops_differ d = rw (← a, ← b, ne_eqb h.n n d)

    pub stops_primary : h.n ≡ n → true ≡ eqb kind 0 → 24 ≡ checked s p
    unfolding checked
    stops_primary e z = rw (← a, ← b, eq-eqb h.n n e, ← z)

    pub stops_nowhere : h.n ≡ n → kind ≢ 0 → Weighable s p h
    stops_nowhere e d =
        record {
          sheet = a;
          plan = ap (λ (x : PlanAnswer). x.refusal) (sym b);
          nodes = ap (λ (x : PlanAnswer). x.n) (sym b) ∙ sym e;
          kind = λ z. d (ap (λ (x : PlanAnswer). x.kind) b ∙ z);
        }

-- what reading both gave
module _ (s p : List ℕ) {x : Result Sheet CheckRefusal} (gave : PairRead s p x) where
  pub pair-refused : {r : CheckRefusal} → x ≡ Err r → check_number r ≡ checked s p
  pair-refused e = rw e at gave

  pub pair-accepted : {h : Sheet} → x ≡ Ok h → Weighable s p h
  pair-accepted e = rw e at gave

-- ---- what they say together

module _ (s p : List ℕ) where
  -- where no check refuses, the sheet is accepted, and the plan has a tree of as many nodes
  pub record Passes : Type 0 where
    pub sheet : (read_sheet s).refusal ≡ 0
    pub plan : (read_plan p).refusal ≡ 0
    pub nodes : (read_sheet s).n ≡ (read_plan p).n
    pub kind : (read_plan p).kind ≢ 0

  pub passes : checked s p ≡ 0 → Passes
  unfolding checked
  passes q =
      record {
        sheet = grind (arith, nat_tests);
        plan = grind (arith, nat_tests);
        nodes = grind (arith, nat_tests);
        kind = λ z. grind (arith, nat_tests);
      }

  pub checked-most : checked s p ≤ 24
  unfolding checked
  checked-most = grind (arith, nat_tests, sheet-most s, plan-most p)

-- ---- what is known of a sheet and a plan that passed them

module _ (s p : List ℕ) (h : Sheet) (w : Weighable s p h) where
  -- none refuses
  pub weighable_checked : checked s p ≡ 0
  unfolding checked
  weighable_checked =
      rw (← w.sheet, w.plan, eq-eqb h.n (read_plan p).n (sym w.nodes), ne_eqb (read_plan p).kind 0 w.kind)

  -- the sheet's facts
  pub facts : AcceptedSheet s (sheet_accepted h.n h.t h.e h.p h.limit)
  facts = reading_accepted s h w.sheet

  -- the table's sum does not wrap
  pub sum-within : sum table_size (at (table_of s h.e)) ≤ max_total
  sum-within = table-within s (sheet_accepted h.n h.t h.e h.p h.limit) facts

  -- the plan's helpands are a tree
  pub tree : (r : ℕ) × Tree h.n (at (helpands_of p h.n)) r
  tree = rw w.nodes at (accepted-tree p w.plan w.kind)

  pub array_tree : (r : ℕ) × Tree h.n (at (padded (helpands_of p h.n))) r
  array_tree = rw (padded-same (helpands_of p h.n)) tree
