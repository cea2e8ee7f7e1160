-- What the buffer's size has to do with the answer, and a size that is long enough for every call: 32,780 bytes, the longest sheet of 64
-- nodes. Assumes nothing.
use mathlib.Core.Path.{◌≡◌, sym, ◌∙◌}
use mathlib.Core.Logic.{◌≢◌, ◌↔◌}
use mathlib.Core.Bool.{not}
use mathlib.Core.List.{List}
use Prim.Native.Nat.{ℕ, ◌≤◌}
use native.Mathlib.Decide.{ℕ_discrete, dec_lt}
use native.Mathlib.Omega.{arith}
use borrow.Author.Tests.{eq-eqb, ne_eqb, lt-ltb, le-ltb}
use lib.Dec.{eqb}
use lib.ListN.{length}
use Rattle.fold.proofs.Tests.{most}
use Rattle.words.specs.Answer.{refused}
use Rattle.words.specs.declared.WrittenAnswer.{WrittenAnswer}
use Rattle.sheet.specs.Sheet.{read_sheet}
use Rattle.sheet.proofs.Accepted.{sheet-accepted}
use Rattle.sheet.proofs.Filled.{length_most}
use Rattle.carry.specs.Checks.{checked}
use Rattle.carry.specs.Carry.{next_table, next_sheet, carry_answer}
use Rattle.carry.proofs.Checks.{carriable, checked-most}

module _ (s m : List ℕ) (size : ℕ) where
  -- the length that is given, 0 in a refusal, lies within the buffer
  pub carry_inside : (carry_answer s m size).bytes ≤ size
  unfolding carry_answer
  carry_inside =
      let k = checked s m in
      let bytes = length (next_sheet s m) in
      let z : 0 ≤ size = omega arith in
      most (λ (a : WrittenAnswer). a.bytes) size (not (eqb k 0)) (refused k) _ z
      (elim (dec_lt size bytes) [
        | yes l ↦ rw (lt-ltb size bytes l) z
        | no g ↦ rw (le-ltb size bytes (omega (arith, g))) (omega (arith, g))
      ])

  -- a check that refuses decides, whatever the size
  pub check_refuses : checked s m ≢ 0 → (carry_answer s m size).refusal ≡ checked s m
  unfolding carry_answer
  check_refuses d = rw (ne_eqb (checked s m) 0 d)

  -- and behind the checks there is 43 alone
  behind_checks : checked s m ≡ 0 → (carry_answer s m size).refusal ≢ 42
  unfolding carry_answer
  behind_checks e = elim (dec_lt size (length (next_sheet s m))) [
    | yes l ↦ rw (eq-eqb (checked s m) 0 e, lt-ltb size (length (next_sheet s m)) l) (λ z. omega (arith, z))
    | no g ↦ rw (eq-eqb (checked s m) 0 e, le-ltb size (length (next_sheet s m)) (omega (arith, g))) (λ z. omega (arith, z))
  ]

  -- so with a buffer of any size it is 42 exactly when the checks say so
  pub refused_42 : ((carry_answer s m size).refusal ≡ 42) ↔ (checked s m ≡ 42)
  refused_42 = (
    λ q. elim (ℕ_discrete (checked s m) 0) [
      | yes e ↦ absurd (behind_checks e q)
      | no d ↦ sym (check_refuses d) ∙ q
    ],
    λ e. check_refuses (λ z. omega (arith, e, z)) ∙ e,
  )

module _ (s m : List ℕ) (size : ℕ) (long : 32780 ≤ size) where
  -- the checks decide
  pub carry_checked : (carry_answer s m size).refusal ≡ checked s m
  unfolding carry_answer next_sheet
  carry_checked =
      let k = checked s m in
      elim (ℕ_discrete k 0) [
        | no d ↦ rw (ne_eqb k 0 d)
        | yes e ↦
            let n_high = (sheet-accepted s (carriable s m e).sheet).n_high in
            let fits = length_most (read_sheet s).n (read_sheet s).t (next_table s m) n_high in
            rw (eq-eqb k 0 e, le-ltb size (length (next_sheet s m)) (omega (arith, fits))) (sym e)
      ]

  -- THEOREM. A call with a buffer of 32,780 bytes is never refused with 43, whatever the sheet and the moves.
  pub never_43 : (carry_answer s m size).refusal ≢ 43
  never_43 e = omega (arith, carry_checked, checked-most s m)
