-- The order of two accepted sheets does not matter: the answer and the buffer are the same, in a refusal too. Assumes nothing.
use mathlib.Core.Path.{◌≡◌, refl, sym, ap₂, ◌∙◌}
use mathlib.Core.Bool.{Bool, true, false, not}
use mathlib.Core.Logic.{◌⊎◌, inl, inr}
use mathlib.Core.List.{List}
use Prim.Native.Nat.{ℕ}
use native.Mathlib.Decide.{ℕ_discrete}
use native.Mathlib.Omega.{arith}
use borrow.Author.Tests.{eqb-true, eq-eqb, ne_eqb}
use lib.Dec.{eqb, ltb}
use lib.ListN.{length}
use Rattle.fold.proofs.Tests.{either, and_left, and_right}
use Rattle.limit.specs.Limit.{max_total}
use Rattle.words.specs.Checks.{refuse_if}
use Rattle.words.specs.Buffer.{after_call}
use Rattle.words.specs.Answer.{refused, accepted}
use Rattle.words.specs.declared.WrittenAnswer.{WrittenAnswer}
use Rattle.sheet.specs.Sheet.{read_sheet}
use Rattle.sheet.specs.Table.{table_in}
use Rattle.inlet.specs.Join.{alike, joint_total, joined_sheet, join_answer, joined_after}
use Rattle.inlet.proofs.Tables.{added_order}

-- the test of two numbers, in either order
eqb_order : (m n : ℕ) → eqb m n ≡ eqb n m
eqb_order m n = elim (ℕ_discrete m n) [
  | yes e ↦ eq-eqb m n e ∙ sym (eq-eqb n m (sym e))
  | no d ↦ ne_eqb m n d ∙ sym (ne_eqb n m (λ e. d (sym e)))
]

alike_order : (f s : List ℕ) → alike f s ≡ alike s f
alike_order f s = rw (eqb_order (read_sheet f).n (read_sheet s).n, eqb_order (read_sheet f).t (read_sheet s).t)

sheet_order : (f s : List ℕ) → alike f s ≡ true → joined_sheet f s ≡ joined_sheet s f
unfolding joined_sheet
sheet_order f s e =
    let n = eqb (read_sheet f).n (read_sheet s).n in
    let t = eqb (read_sheet f).t (read_sheet s).t in
    rw (
      eqb-true (read_sheet f).n (read_sheet s).n (and_left n t e),
      eqb-true (read_sheet f).t (read_sheet s).t (and_right n t e),
      added_order (table_in f) (table_in s),
    )

-- the checks behind those of the two sheets
abbrev behind : Bool → ℕ → List ℕ → ℕ → WrittenAnswer
behind same total rec size =
    refuse_if (not same) (refused 51)
    (refuse_if (ltb max_total total) (refused 7) (refuse_if (ltb size (length rec)) (refused 52) (accepted (length rec))))

module _ (f s : List ℕ) (first : (read_sheet f).refusal ≡ 0) (second : (read_sheet s).refusal ≡ 0) where
  past : (size : ℕ) → join_answer f s size ≡ behind (alike f s) (joint_total f s) (joined_sheet f s) size
  unfolding join_answer
  past size = rw (eq-eqb (read_sheet f).refusal 0 first, eq-eqb (read_sheet s).refusal 0 second)

-- THEOREM. Two accepted sheets are joined alike in either order: the same answer, and the same bytes in the buffer.
pub join_order : (f s : List ℕ) → (read_sheet f).refusal ≡ 0 → (read_sheet s).refusal ≡ 0 → (out : List ℕ)
    → (join_answer f s (length out) ≡ join_answer s f (length out)) × (joined_after f s out ≡ joined_after s f out)
join_order f s first second out = split (either (alike f s))
  where
    split : (alike f s ≡ true) ⊎ (alike f s ≡ false)
        → (join_answer f s (length out) ≡ join_answer s f (length out)) × (joined_after f s out ≡ joined_after s f out)
    split (inl e) =
        let total : joint_total f s ≡ joint_total s f = omega arith in
        let answers : join_answer f s (length out) ≡ join_answer s f (length out) =
        past f s first second (length out) ∙ rw (alike_order f s, total, sheet_order f s e) refl
        ∙ sym (past s f second first (length out)) in
        (answers, ap₂ (λ (a : WrittenAnswer) (rec : List ℕ). after_call a.refusal rec out) answers (sheet_order f s e))
    split (inr e) =
        let a : join_answer f s (length out) ≡ refused 51 = past f s first second (length out) ∙ rw e in
        let b : join_answer s f (length out) ≡ refused 51 = past s f second first (length out) ∙ rw (sym (alike_order f s) ∙ e) in
        (a ∙ sym b, rw (a, b))
