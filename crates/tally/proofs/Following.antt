-- Request 2026-08, its theorem: after any calls on an opened tally, the tally is that of the present counts, and each call answers as the
-- present counts say. Assumes nothing.
use mathlib.Core.Path.{◌≡◌, refl, sym, ap, ◌∙◌}
use mathlib.Core.Logic.{◌≢◌, ◌↔◌}
use mathlib.Core.Bool.{Bool, true, false}
use mathlib.Core.List.{List, [], ◌∷◌}
use Prim.Native.Nat.{ℕ, ◌≤◌}
use native.Mathlib.Omega.{arith}
use Rattle.std.proofs.lemmas.Bool.Decides.{nat_tests}
use borrow.Author.Tests.{eq-eqb, ne_eqb}
use Rattle.fold.specs.Sum.{only}
use Rattle.fold.proofs.Tests.{only-is, handed}
use Rattle.limit.specs.Limit.{max_nodes}
use Rattle.arrays.specs.Arrays.{at}
use Rattle.arrays.proofs.Padded.{padded-same}
use Rattle.sheet.specs.Sheet.{read_sheet}
use Rattle.sheet.specs.Table.{table_in}
use Rattle.sheet.specs.Totals.{totals_of}
use Rattle.sheet.proofs.Accepted.{sheet-accepted}
use Rattle.sheet.proofs.Tables.{length-table, table-within}
use Rattle.plan.specs.Tree.{Tree}
use Rattle.plan.specs.Plan.{helpands_of}
use Rattle.plan.proofs.AcceptedTree.{accepted-tree}
use Rattle.tree.specs.Division.{WithinLimit}
use Rattle.tree.proofs.Keeping.{division_iff_holds}
use Rattle.weigh.specs.Checks.{checked}
use Rattle.weigh.proofs.Checks.{passes}
use Rattle.weigh.specs.declared.WeighAnswer.{WeighAnswer}
use Rattle.weigh.specs.Weigh.{refused, weighed}
use Rattle.tally.specs.declared.Tally.{Tally}
use Rattle.tally.specs.Call.{Call, call_number}
use Rattle.tally.specs.Tally.{tally_of, no_tally, helpands_in, opened, number_in, tally_after, call_answer}
use Rattle.tally.specs.Calls.{after_calls, number_on, counts_after, present_counts, present_in, holds_with, Follows}
use Rattle.tally.proofs.Fresh.{Valid, after_fresh, after_valid, answer_fresh}

-- ---- the tally of any counts

module _ (n limit : ℕ) (helpands : List ℕ) (few : n ≤ max_nodes) {r : ℕ} (t : Tree n (at helpands) r) where
  after-all : (calls : List Call) (counts : List ℕ) → Valid counts
      → after_calls (tally_of n limit helpands counts) calls ≡ tally_of n limit helpands (present_counts n counts calls)
  unfolding after_calls present_counts
  after-all [] counts v = refl
  after-all (c ∷ calls) counts v =
      rw (after_fresh n limit helpands few t counts v c)
      (after-all calls (counts_after n counts c) (after_valid n limit helpands few t counts v c))

  present_valid : (calls : List Call) (counts : List ℕ) → Valid counts → Valid (present_counts n counts calls)
  unfolding present_counts
  present_valid [] counts v = v
  present_valid (c ∷ calls) counts v = present_valid calls (counts_after n counts c) (after_valid n limit helpands few t counts v c)

-- ---- an opened tally

module _ (s p : List ℕ) (z : checked s p ≡ 0) where
  abbrev n₀ : ℕ
  n₀ = (read_sheet s).n

  few-nodes : n₀ ≤ max_nodes
  few-nodes = (sheet-accepted s (passes s p z).sheet).n_high

  pub opened-tree : (r : ℕ) × Tree n₀ (at (helpands_in s p)) r
  opened-tree =
      let w = passes s p z in
      rw (padded-same (helpands_of p n₀), w.nodes) (accepted-tree p w.plan w.kind)

  table_valid : Valid (table_in s)
  table_valid =
      record {
        long = length-table s (read_sheet s).e;
        within = table-within s (read_sheet s) (sheet-accepted s (passes s p z).sheet);
      }

  opened-is : opened s p ≡ tally_of n₀ (read_sheet s).limit (helpands_in s p) (table_in s)
  unfolding opened
  opened-is = rw (eq-eqb (checked s p) 0 z)

  -- THEOREM. After any calls on an opened tally that nothing else writes, the counts are the opening sheet's with every accepted call
  -- applied in order; the totals, the total and the leasts are those of these counts, worked out afresh with the opening sheet's limit; and
  -- every further call is refused, or says whether the tree holds, as these counts have it.
  pub follows : (calls : List Call) → Follows s p calls
  follows calls =
      let limit = (read_sheet s).limit in
      let t = opened-tree.1 in
      let is = ap (λ x. after_calls x calls) opened-is ∙ after-all n₀ limit (helpands_in s p) few-nodes t calls (table_in s) table_valid in
      record {
        tally = is;
        answer = λ c.
            ap (λ x. call_answer x c) is
            ∙ answer_fresh n₀ limit (helpands_in s p) few-nodes t (present_in s calls)
            (present_valid n₀ limit (helpands_in s p) few-nodes t calls (table_in s) table_valid) c;
      }

  -- THEOREM. The tree holds with some counts exactly when a division within the opening sheet's limit exists.
  pub holds-division : (counts : List ℕ)
      → ((own : ℕ → ℕ) × (share : ℕ → ℕ) × WithinLimit n₀ (at (helpands_in s p)) (at (totals_of n₀ counts)) (read_sheet s).limit own share)
      ↔ (holds_with s p counts ≡ true)
  holds-division counts =
      division_iff_holds n₀ (at (helpands_in s p)) (at (totals_of n₀ counts)) (read_sheet s).limit opened-tree.0 opened-tree.1

  -- THEOREM. After any calls on an opened tally, a further call that is accepted says that the tree holds exactly when a division within
  -- the opening sheet's limit exists, with the counts after it.
  pub holds-says : (calls : List Call) (c : Call) → (call_answer (after_calls (opened s p) calls) c).refusal ≡ 0
      → let totals = totals_of n₀ (counts_after n₀ (present_in s calls) c) in
      ((own : ℕ → ℕ) × (share : ℕ → ℕ) × WithinLimit n₀ (at (helpands_in s p)) (at totals) (read_sheet s).limit own share)
      ↔ ((call_answer (after_calls (opened s p) calls) c).holds ≡ 1)
  holds-says calls c z =
      let a = (follows calls).answer c in
      let after = counts_after n₀ (present_in s calls) c in
      let k = number_on n₀ (present_in s calls) c in
      let zero = (handed (λ (x : WeighAnswer). x.refusal) refused (λ j. refl) k (weighed (holds_with s p after)) (rw a at z)).0 in
      let says : (call_answer (after_calls (opened s p) calls) c).holds ≡ only (holds_with s p after) 1 = rw (a, eq-eqb k 0 zero) in (
        (λ w. says ∙ only-is (holds_with s p after) 1 ((holds-division after).0 w)),
        (λ e. (holds-division after).1 (one (holds_with s p after) (sym says ∙ e))),
      )
    where
      one : (b : Bool) → only b 1 ≡ 1 → b ≡ true
      one true e = refl
      one false e = absurd (omega arith)

-- ---- refusals

altered : (t : Tally) (c : Call) → number_in t c ≢ 0 → tally_after t c ≡ t
unfolding tally_after
altered t c d = rw (ne_eqb (number_in t c) 0 d)

-- THEOREM. "A refused call alters nothing", whatever the tally holds.
pub refused_alters_nothing : (t : Tally) (c : Call) → (call_answer t c).refusal ≢ 0 → tally_after t c ≡ t
unfolding call_answer
refused_alters_nothing t c d = altered t c (λ e. d (rw e))

-- a tally with N 0 refuses every call with 58
no_nodes : (t : Tally) → t.head.n ≡ 0 → (c : Call) → number_in t c ≡ 58
unfolding number_in call_number
no_nodes t e c = grind (arith, nat_tests)

no_tally-number : (c : Call) → number_in no_tally c ≡ 58
no_tally-number = no_nodes no_tally none
  where
    none : no_tally.head.n ≡ 0
    none = unfold no_tally in refl

after_none : (calls : List Call) → after_calls no_tally calls ≡ no_tally
unfolding after_calls
after_none [] = refl
after_none (c ∷ calls) = rw (altered no_tally c (λ z. omega (arith, no_tally-number c))) (after_none calls)

-- THEOREM. "A refused opening gives a tally with N 0, whose every call is refused with 58", however many calls there are.
pub refused_opening_58 : (s p : List ℕ) → checked s p ≢ 0 → (calls : List Call) (c : Call)
    → call_answer (after_calls (opened s p) calls) c ≡ refused 58
unfolding opened call_answer
refused_opening_58 s p d calls c = rw (ne_eqb (checked s p) 0 d, after_none calls, no_tally-number c)
