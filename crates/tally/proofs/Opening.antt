-- The ways out of an opening: it is refused, or the sheet and the plan were read. Assumes nothing.
use mathlib.Core.Path.{◌≡◌, ap, ◌∙◌}
use mathlib.Core.Logic.{◌≢◌}
use mathlib.Core.List.{List}
use Prim.Native.Nat.{ℕ, ◌*◌, ◌≤◌}
use native.Mathlib.Decide.{ℕ_discrete}
use native.Mathlib.Omega.{arith}
use borrow.Author.Tests.{le-ltb, ne_eqb}
use lib.Dec.{leb}
use Rattle.fold.specs.All.{all}
use Rattle.arrays.specs.Arrays.{at, padded, tabulate}
use Rattle.arrays.proofs.Padded.{padded-same}
use Rattle.sheet.specs.declared.Sheet.{Sheet}
use Rattle.sheet.specs.Sheet.{read_sheet, accepted}
use Rattle.sheet.specs.Table.{table_of}
use Rattle.sheet.specs.Totals.{totals_of}
use Rattle.sheet.proofs.Accepted.{sheet-accepted}
use Rattle.sheet.proofs.Tables.{table-sum}
use Rattle.plan.specs.Plan.{helpands_of}
use Rattle.tree.specs.Least.{least}
use Rattle.tree.proofs.Weighing.{holds_tabulated}
use Rattle.weigh.specs.declared.check.CheckRefusal.{CheckRefusal}
use Rattle.weigh.specs.Checks.{check_number, checked}
use Rattle.weigh.specs.Weigh.{refused, weighed, weigh_answer}
use Rattle.weigh.specs.Inner.{Weighable}
use Rattle.weigh.proofs.Answers.{numbered}
use Rattle.weigh.proofs.Checks.{passes, weighable_checked, facts}
use Rattle.tally.specs.declared.Head.{Head}
use Rattle.tally.specs.declared.Opened.{Opened}
use Rattle.tally.specs.Layout.{laid}
use Rattle.tally.specs.Tally.{tally_of, no_tally, open_answer, opened, tally_with, open_result}

module _ (s p : List ℕ) where
  -- what is given, and the cells as they are then
  abbrev Ends : Opened → List ℕ → Type 0
  Ends r cells = (r ≡ open_result s p) × (cells ≡ (opened s p).cells)

  pub ends_refused : (r : CheckRefusal) → check_number r ≡ checked s p
      → Ends (record { answer = refused (check_number r); head = no_tally.head }) no_tally.cells
  unfolding open_answer opened
  ends_refused r e =
      let d : check_number r ≢ 0 = λ z. omega (arith, (numbered r).0) in
      (rw (← e, ne_eqb (check_number r) 0 d), rw (← e, ne_eqb (check_number r) 0 d))

-- the arrays that were read
module _ {s p : List ℕ} {h : Sheet} (w : Weighable s p h) {table totals helpands leasts : List ℕ} (t : table ≡ table_of s h.e)
    (o : totals ≡ totals_of h.n table) (a : helpands ≡ padded (helpands_of p h.n))
    (l : leasts ≡ tabulate h.n (least h.n (at helpands) (at totals) h.limit)) where
  answer-is : weighed (all h.n (λ k. leb (at leasts k) h.limit)) ≡ open_answer s p
  unfolding open_answer
  answer-is =
      let is = holds_tabulated h.n (at (helpands_of p h.n)) (at (totals_of h.n (table_of s h.e))) h.limit in
      rw (weighable_checked s p h w, ← w.sheet, l, a, padded-same (helpands_of p h.n), o, t) (ap weighed is)

  -- the head that is made
  abbrev head : Head
  head = record { n = h.n; limit = h.limit; total = h.p; helpands = helpands }

  opened-is : tally_with head (laid totals leasts table) ≡ opened s p
  unfolding opened tally_of
  opened-is =
      let total = table-sum s (accepted h.n h.t h.e h.p h.limit) (facts s p h w) in
      rw (weighable_checked s p h w, ← w.sheet, l, a, o, t, ← total)

  pub ends_opened : {cells : List ℕ} → cells ≡ laid totals leasts table
      → Ends s p (record { answer = weighed (all h.n (λ k. leb (at leasts k) h.limit)); head = head }) cells
  ends_opened e = (rw (answer-is, ← opened-is), e ∙ rw (← opened-is))

-- THEOREM. Opening answers as *weigh* does with a buffer that is long enough.
pub open_weighs : (s p : List ℕ) (size : ℕ) → 256 ≤ size → open_answer s p ≡ weigh_answer s p size
unfolding open_answer weigh_answer
open_weighs s p size long = elim (ℕ_discrete (checked s p) 0) [
  | yes e ↦
      let n_high = (sheet-accepted s (passes s p e).sheet).n_high in
      rw (le-ltb size (4 * (read_sheet s).n) (omega (arith, n_high)))
  | no d ↦ rw (ne_eqb (checked s p) 0 d)
]
