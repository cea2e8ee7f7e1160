-- One law for each way out of weighing: the answer, and the buffer as it is then. Assumes nothing.
use mathlib.Core.Path.{◌≡◌, ap, ◌∙◌}
use mathlib.Core.Logic.{◌≢◌}
use mathlib.Core.List.{List, [], ◌∷◌}
use Prim.Native.Nat.{ℕ, ◌*◌, ◌≤◌, ◌<◌}
use native.Mathlib.Omega.{arith}
use borrow.Author.Tests.{lt-ltb, le-ltb, ne_eqb}
use lib.Dec.{leb}
use lib.ListN.{length, take}
use lib.Seq.{sets}
use Rattle.fold.specs.All.{all}
use Rattle.fold.specs.Collect.{collect}
use Rattle.words.specs.Words.{encode}
use Rattle.words.specs.Buffer.{placed}
use Rattle.words.proofs.Words.{length-encode}
use Rattle.words.proofs.Buffer.{sets-placed}
use Rattle.arrays.specs.Arrays.{padded, tabulate, at}
use Rattle.arrays.proofs.Padded.{padded-same}
use Rattle.arrays.proofs.Tabulate.{length-row, take-tabulate}
use Rattle.sheet.specs.declared.Sheet.{Sheet}
use Rattle.sheet.specs.declared.SheetAnswer.{SheetAnswer}
use Rattle.sheet.specs.Sheet.{read_sheet}
use Rattle.sheet.specs.Table.{table_of}
use Rattle.sheet.specs.Totals.{totals_of}
use Rattle.plan.specs.Plan.{helpands_of}
use Rattle.tree.specs.Least.{least}
use Rattle.tree.proofs.Weighing.{holds_tabulated}
use Rattle.weigh.specs.declared.check.CheckRefusal.{CheckRefusal}
use Rattle.weigh.specs.declared.WeighAnswer.{WeighAnswer}
use Rattle.weigh.specs.Checks.{check_number, checked}
use Rattle.weigh.specs.Weigh.{refused, weighed, least_in, holds_in, least_bytes, weigh_answer, weigh_bytes}
use Rattle.weigh.specs.Inner.{Weighable}
use Rattle.weigh.proofs.Answers.{numbered}
use Rattle.weigh.proofs.Checks.{weighable_checked}

-- the leasts of the arrays that were read are those of the sheet and the plan
pub leasts-read : (s p : List ℕ) (h : Sheet) → Weighable s p h → (table totals helpands leasts : List ℕ) → table ≡ table_of s h.e
    → totals ≡ totals_of h.n table → helpands ≡ padded (helpands_of p h.n)
    → leasts ≡ tabulate h.n (least h.n (at helpands) (at totals) h.limit) → leasts ≡ tabulate h.n (least_in s p)
leasts-read s p h w table totals helpands leasts t o a e = rw (← w.sheet) (e ∙ rw (a, padded-same (helpands_of p h.n), o, t))

-- ---- the ways out

module _ (s p out : List ℕ) where
  -- the answer, and the buffer as it is then
  abbrev pub Ends : WeighAnswer → List ℕ → Type 0
  Ends a out₁ = (a ≡ weigh_answer s p (length out)) × (out₁ ≡ weigh_bytes s p out)

  refuses : (k : ℕ) → k ≢ 0 → refused k ≡ weigh_answer s p (length out) → Ends (refused k) out
  refuses k d e = (e, rw (← e, ne_eqb k 0 d))

  pub ends_refused : (r : CheckRefusal) → check_number r ≡ checked s p → Ends (refused (check_number r)) out
  unfolding weigh_answer
  ends_refused r e =
      let k = check_number r in
      let d : k ≢ 0 = λ z. omega (arith, (numbered r).0) in
      refuses k d (rw (← e, ne_eqb k 0 d))

-- the sheet and the plan were read
module _ {s p : List ℕ} {h : Sheet} (w : Weighable s p h) (out : List ℕ) where
  pub ends_short : length out < 4 * h.n → Ends s p out (refused 25) out
  unfolding weigh_answer
  ends_short l =
      refuses s p out 25 (λ z. omega arith) (rw (weighable_checked s p h w, ← w.sheet, lt-ltb (length out) (4 * h.n) l))

  -- the leasts were worked out, and there is room for them
  module _ (long : 4 * h.n ≤ length out) {leasts : List ℕ} (l : leasts ≡ tabulate h.n (least_in s p)) where
    answered : weighed (holds_in s p) ≡ weigh_answer s p (length out)
    unfolding weigh_answer
    answered = rw (weighable_checked s p h w, ← w.sheet, le-ltb (length out) (4 * h.n) long)

    holding : all h.n (λ k. leb (at leasts k) h.limit) ≡ holds_in s p
    holding =
        rw (l, ← w.sheet) (holds_tabulated h.n (at (helpands_of p h.n)) (at (totals_of h.n (table_of s h.e))) h.limit)

    placing : sets out 0 (encode (take h.n leasts)) ≡ placed (least_bytes s p) out
    unfolding least_bytes
    placing =
        let n : h.n ≡ (read_sheet s).n = ap (λ (a : SheetAnswer). a.n) w.sheet in
        let size = length-encode (collect (read_sheet s).n (λ k. least_in s p k ∷ [])) in
        let row = ap (take h.n) l ∙ take-tabulate h.n (least_in s p) ∙ ap (λ (m : ℕ). collect m (λ k. least_in s p k ∷ [])) n in
        ap (λ (ws : List ℕ). sets out 0 (encode ws)) row
        ∙ sets-placed (least_bytes s p) out (omega (arith, size, length-row (least_in s p) (read_sheet s).n))

    pub ends_weighed :
        Ends s p out (weighed (all h.n (λ k. leb (at leasts k) h.limit))) (sets out 0 (encode (take h.n leasts)))
    ends_weighed = (ap weighed holding ∙ answered, placing ∙ rw (← answered))
