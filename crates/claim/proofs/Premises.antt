-- Demand 3 is not empty: steps of document 01 meet its premises. Each premise is a test that computes. Assumes nothing.
use mathlib.Core.Path.{◌≡◌, refl}
use mathlib.Core.Logic.{inl}
use mathlib.Core.Bool.{true, false}
use mathlib.Core.List.{List}
use Prim.Native.Nat.{ℕ, ◌≤◌}
use native.Mathlib.Nat.{mul-le-mul}
use native.Mathlib.Omega.{arith}
use borrow.Author.Tests.{ltb-true, eqb-false}
use lib.Dec.{eqb, ltb}
use lib.ListN.{replicate, length-replicate}
use Rattle.fold.specs.Sum.{sum}
use Rattle.fold.specs.All.{all}
use Rattle.fold.specs.Collect.{collect}
use Rattle.fold.specs.Rising.{rising}
use Rattle.limit.specs.Limit.{limit_of}
use Rattle.words.specs.Words.{words, encode}
use Rattle.arrays.specs.Arrays.{at, tabulate}
use Rattle.sheet.specs.Sheet.{running_sum, read_header, read_sheet}
use Rattle.sheet.specs.Table.{count_at, counts_from, table_of}
use Rattle.sheet.specs.Totals.{totals_in}
use Rattle.plan.specs.Tree.{reaches}
use Rattle.plan.specs.Plan.{arrays_answer, head_answer, read_plan}
use Rattle.sheet.proofs.Accepted.{sheet-accepted}
use Rattle.planner.proofs.Sizes.{largest}
use Rattle.planner.specs.Worked.{Worked, step_D, step_E, step_F, step_G, step_H, step_I}
use Rattle.claim.specs.Claim.{Overloaded, AcceptedTree, NoTree, LongEnough}

overloaded : (s : List ℕ) (n : ℕ) → (read_sheet s).refusal ≡ 0 → ltb n (read_sheet s).n ≡ true
    → ltb (read_sheet s).limit (at (totals_in s) n) ≡ true → Overloaded s
overloaded s n e f g = record { accepted = e; above = (n, ltb-true n _ f, ltb-true (read_sheet s).limit _ g) }

with_tree : (s o : List ℕ) → (read_plan o).refusal ≡ 0 → (read_plan o).n ≡ (read_sheet s).n → eqb (read_plan o).kind 0 ≡ false → AcceptedTree s o
with_tree s o e f g = record { accepted = e; nodes = f; kind = eqb-false (read_plan o).kind 0 g }

-- a step with a subdomain above the limit and an accepted tree
abbrev Meets : Worked → Type 0
Meets w = Overloaded (encode w.sheet) × AcceptedTree (encode w.sheet) (encode w.old)

-- the same by its tests; n is the subdomain
meets : (w : Worked) (n : ℕ)
    → let s = encode w.sheet in
    let o = encode w.old in
    ((read_sheet s).refusal ≡ 0) × (ltb n (read_sheet s).n ≡ true) × (ltb (read_sheet s).limit (at (totals_in s) n) ≡ true)
    × ((read_plan o).refusal ≡ 0) × ((read_plan o).n ≡ (read_sheet s).n) × (eqb (read_plan o).kind 0 ≡ false)
    → Meets w
meets w n t =
    let s = encode w.sheet in
    (overloaded s n t.0 t.1 t.2, with_tree s (encode w.old) t.3 t.4 t.5)

-- THEOREM. Buffers as long as the records of 64 nodes are long enough for every accepted sheet.
pub long-enough : (s : List ℕ) → (read_sheet s).refusal ≡ 0 → LongEnough s (replicate 524 0) (replicate 32264 0) (replicate 32780 0)
long-enough s z =
    let l = largest s z in
    let n : (read_sheet s).n ≤ 64 = (sheet-accepted s z).n_high in
    record {
      plan = omega (arith, l.0, length-replicate {A = ℕ} 524 0);
      moves = omega (arith, l.1, length-replicate {A = ℕ} 32264 0);
      next = omega (arith, mul-le-mul n n, length-replicate {A = ℕ} 32780 0);
    }

-- THEOREM. Steps E and H, which are kept, F, G and I, which are rebuilt, and D, which has no old plan, meet the other premises of demand 3.
pub premises_met : Meets step_E × Meets step_H × Meets step_F × Meets step_G × Meets step_I
    × (Overloaded (encode step_D.sheet) × NoTree (encode step_D.sheet) (encode step_D.old))
unfolding words encode read_sheet read_header rising running_sum limit_of table_of counts_from count_at tabulate collect sum all reaches
    read_plan head_answer arrays_answer
premises_met = (
  meets step_E 0 (refl, refl, refl, refl, refl, refl),
  meets step_H 1 (refl, refl, refl, refl, refl, refl),
  meets step_F 0 (refl, refl, refl, refl, refl, refl),
  meets step_G 1 (refl, refl, refl, refl, refl, refl),
  meets step_I 1 (refl, refl, refl, refl, refl, refl),
  (overloaded (encode step_D.sheet) 0 refl refl refl, inl refl),
)
