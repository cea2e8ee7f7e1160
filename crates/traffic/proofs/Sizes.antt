-- The size of a buffer that is long enough for every call, 1,625 bytes, and what the page has to do with *carry out*: with buffers that
-- are long enough both are refused with the same number, or neither is. Assumes nothing.
use mathlib.Core.Path.{◌≡◌, sym, ap, ◌∙◌}
use mathlib.Core.Logic.{◌≢◌}
use mathlib.Core.List.{List}
use Prim.Native.Nat.{ℕ, ◌≤◌}
use native.Mathlib.Decide.{ℕ_discrete}
use native.Mathlib.Omega.{arith}
use borrow.Author.Tests.{ne_eqb}
use Rattle.words.specs.declared.WrittenAnswer.{WrittenAnswer}
use Rattle.sheet.specs.Sheet.{read_sheet}
use Rattle.sheet.proofs.Accepted.{sheet-accepted}
use Rattle.carry.specs.Checks.{checked}
use Rattle.carry.specs.Carry.{carry_answer}
use Rattle.carry.proofs.Checks.{carriable, checked-most}
use Rattle.carry.proofs.Sizes.{carry_checked}
use Rattle.traffic.specs.Page.{page_size, page_answer}
use Rattle.traffic.proofs.Printed.{prints}

module _ (s m : List ℕ) (size : ℕ) (long : 1625 ≤ size) where
  -- the checks decide
  page-checked : (page_answer s m size).refusal ≡ checked s m
  unfolding page_answer
  page-checked =
      let k = checked s m in
      elim (ℕ_discrete k 0) [
        | no d ↦ rw (ne_eqb k 0 d)
        | yes e ↦
            let d = carriable s m e in
            let fits : page_size (read_sheet s).n ≤ size = omega (arith, (sheet-accepted s d.sheet).n_high) in
            ap (λ (a : WrittenAnswer). a.refusal) (prints s m size d fits) ∙ sym e
      ]

  -- THEOREM. A call with a buffer of 1,625 bytes is never refused with 53, whatever the sheet and the moves.
  pub never_53 : (page_answer s m size).refusal ≢ 53
  never_53 e = omega (arith, page-checked, checked-most s m)

  -- THEOREM. "From a sheet and moves that *carry out* would accept, buffer aside": whatever they are, the page is refused with the number
  -- that *carry out* refuses them with, and accepted where it accepts them.
  pub page-as_carry : (room : ℕ) → 32780 ≤ room → (page_answer s m size).refusal ≡ (carry_answer s m room).refusal
  page-as_carry room h = page-checked ∙ sym (carry_checked s m room h)
