-- What planning needs of a sheet and an old plan that were read: the totals add up to P, and an old tree is a tree. Assumes nothing.
use mathlib.Core.Path.{◌≡◌, refl, sym, ap, ◌∙◌}
use mathlib.Core.Logic.{◌≢◌, ◌⊎◌, inl, inr}
use mathlib.Core.Bool.{Bool, true, false, cond, not, false≢true}
use mathlib.Core.List.{List}
use Prim.Native.Nat.{ℕ, ◌+◌, ◌-◌, ◌*◌, ◌/◌, ◌%◌, ◌≤◌, ◌<◌}
use native.Mathlib.Omega.{arith}
use borrow.Author.Tests.{eqb-true, eqb-false, lt-ltb}
use lib.Dec.{eqb, ltb}
use lib.ListN.{length, replicate, length-append, length-replicate}
use Rattle.fold.specs.Sum.{sum}
use Rattle.fold.proofs.Sums.{sum-eq}
use Rattle.fold.proofs.Tests.{either, all_of}
use Rattle.limit.specs.Limit.{max_total, table_size}
use Rattle.sheet.specs.declared.Sheet.{Sheet}
use Rattle.sheet.specs.Sheet.{cell_fine, cell, accepted}
use Rattle.sheet.specs.Table.{table_of, held}
use Rattle.sheet.proofs.Laws.{cell-holder, cell-subdomain}
use Rattle.sheet.proofs.Accepted.{Accepted, reading_accepted}
use Rattle.sheet.proofs.Tables.{table-outside, table-sum, table-within}
use Rattle.plan.specs.Tree.{helpands_below, Tree}
use Rattle.plan.specs.Plan.{read_plan, helpands_of}
use Rattle.plan.proofs.Accepted.{plan-accepted, helpands_are}
use Rattle.plan.proofs.AcceptedTree.{accepted-tree}
use Rattle.arrays.specs.Arrays.{at}
use Rattle.plan.proofs.Trees.{tree-below}
use Rattle.sheet.specs.Totals.{total_of, totals_of}
use Rattle.decide.specs.Decide.{own_numbers, decided}
use Rattle.decide.proofs.Decided.{Given, Fine, decided_fine}
use Rattle.planner.specs.Step.{OldAnswer, old_refused, old_read, read_old, old_helpands, decision_in}
use Rattle.planner.specs.Inner.{StepRead, OldTreeRead}
use Rattle.arrays.proofs.Padded.{padded-same}
use Rattle.arrays.proofs.Tabulate.{tabulate-at, length-tabulate}
use Rattle.sheet.proofs.Totalled.{totals-sum}

-- ---- an old plan with a tree

-- which checks were passed
pub record OldTree (o : List ℕ) (n : ℕ) : Type 0 where
  pub accepted : (read_plan o).refusal ≡ 0
  pub nodes : (read_plan o).n ≡ n
  pub kind : (read_plan o).kind ≢ 0

pub old-tree-read : (o : List ℕ) (n : ℕ) → read_old o n ≡ old_read true → OldTree o n
unfolding read_old
old-tree-read o n e =
    let a = read_plan o in
    let t = ap (λ (x : OldAnswer). x.tree) e in
    let b = checks (eqb (length o) 0) (eqb a.refusal 0) (eqb a.n n) (eqb a.kind 0) a.refusal t in
    record { accepted = eqb-true a.refusal 0 b.0; nodes = eqb-true a.n n b.1; kind = eqb-false a.kind 0 b.2 }
  where
    checks : (empty fine same primary : Bool) (k : ℕ)
        → (cond empty (old_read false) (cond (not fine) (old_refused k) (cond (not same) (old_refused 21) (old_read (not primary))))).tree ≡ true
        → (fine ≡ true) × (same ≡ true) × (primary ≡ false)
    checks true fine same primary k e = absurd (false≢true e)
    checks false false same primary k e = absurd (false≢true e)
    checks false true false primary k e = absurd (false≢true e)
    checks false true true true k e = absurd (false≢true e)
    checks false true true false k e = (refl, refl, refl)

-- ---- the sheet and the old plan together

module _ {s o : List ℕ} {h : Sheet} {tree : Bool} (r : StepRead s o h tree) where
  abbrev pub table : List ℕ
  table = table_of s h.e

  abbrev pub totals : List ℕ
  totals = totals_of h.n table

  abbrev pub old : List ℕ
  old = old_helpands o tree h.n

  pub facts : Accepted s (accepted h.n h.t h.e h.p h.limit)
  facts = reading_accepted s h r.sheet

  -- the table's sum does not wrap
  pub sum-within : sum table_size (at table) ≤ max_total
  sum-within = table-within s (accepted h.n h.t h.e h.p h.limit) facts

  outside : (k n : ℕ) → n < 64 → (k < h.n → n < h.n → ⊥) → held table k n ≡ 0
  outside k n l d = split (either (cell_fine h.n (cell k n)))
    where
      split : (cell_fine h.n (cell k n) ≡ true) ⊎ (cell_fine h.n (cell k n) ≡ false) → held table k n ≡ 0
      split (inl e) =
          let q : cell k n / 64 ≡ k = omega arith in
          let m : cell k n % 64 ≡ n = omega arith in
          absurd (d (omega (arith, cell-holder h.n (cell k n) e)) (omega (arith, cell-subdomain h.n (cell k n) e)))
      split (inr e) = table-outside s (accepted h.n h.t h.e h.p h.limit) facts (cell k n) e

  -- the totals add up to P
  pub adds : sum h.n (at totals) ≡ h.p
  adds =
      sum-eq h.n (at totals) (total_of h.n table) (λ n l. tabulate-at h.n (total_of h.n table) n l)
      ∙ totals-sum table h.n facts.n_high outside
      ∙ table-sum s (accepted h.n h.t h.e h.p h.limit) facts

  -- ---- the old tree, or each node's own number

  pub old-size : tree ≡ true → 4 * (3 + h.n) ≤ length o
  old-size e =
      let p = old-tree-read o h.n (r.old ∙ ap old_read e) in
      omega (arith, (plan-accepted o p.accepted).size, p.nodes)

  rooted : tree ≡ true → (root : ℕ) × Tree h.n (at old) root
  rooted e =
      let p = old-tree-read o h.n (r.old ∙ ap old_read e) in
      rw (e, padded-same (helpands_of o h.n)) (rw p.nodes at (accepted-tree o p.accepted p.kind))

  pub old_tree : tree ≡ true → OldTreeRead o h.n
  old_tree e = record { size = old-size e; tree = rw e at (rooted e) }

  old_below : helpands_below h.n (at old) ≡ true
  old_below = split (either tree)
    where
      split : (tree ≡ true) ⊎ (tree ≡ false) → helpands_below h.n (at old) ≡ true
      split (inl e) = tree-below (rooted e).1
      split (inr e) =
          rw e
          (all_of h.n (λ k. ltb (at (own_numbers h.n) k) h.n)
          (λ k l. lt-ltb (at (own_numbers h.n) k) h.n (omega (arith, tabulate-at h.n (λ j. j) k l))))

  old-long : length old ≡ 64
  old-long = split (either tree)
    where
      split : (tree ≡ true) ⊎ (tree ≡ false) → length old ≡ 64
      split (inl e) =
          let p = old-tree-read o h.n (r.old ∙ ap old_read e) in
          let k = plan-accepted o p.accepted in
          let size = helpands_are o (read_plan o) k in
          let l : length (helpands_of o h.n) ≡ h.n = ap (λ (m : ℕ). length (helpands_of o m)) (sym p.nodes) ∙ size ∙ p.nodes in
          rw e
          (omega (
            arith,
            length-append (helpands_of o h.n) (replicate (64 - length (helpands_of o h.n)) 0),
            length-replicate {A = ℕ} (64 - length (helpands_of o h.n)) 0,
            l,
            facts.n_high,
          ))
      split (inr e) = rw e (length-tabulate h.n (λ j. j) facts.n_high)

  pub given : Given h.n h.p h.t table totals tree old
  given =
      record {
        some = facts.n_low;
        few = facts.n_high;
        total = facts.sum.within;
        tolerance = facts.t_high;
        counted = refl;
        adds = adds;
        long = old-long;
        below = old_below;
        rooted = rooted;
      }

  -- the decision on the sheet and the old plan is that on their parts
  pub decision : decision_in s o ≡ decided h.n h.p h.limit table totals tree old
  unfolding decision_in
  decision = rw (← r.sheet, r.old)

  -- and it can be written and carried out
  pub decision_fine : Fine h.n h.limit totals (decision_in s o)
  decision_fine = rw (decision, facts.limit_is) (decided_fine h.n h.p h.t table totals tree old given)
