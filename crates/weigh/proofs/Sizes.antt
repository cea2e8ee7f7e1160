-- The size of a buffer that is long enough for every call: 256 bytes, 4 for each of 64 nodes. Assumes nothing.
use mathlib.Core.Path.{◌≡◌, sym}
use mathlib.Core.Logic.{◌≢◌}
use mathlib.Core.List.{List}
use Prim.Native.Nat.{ℕ, ◌*◌, ◌≤◌}
use native.Mathlib.Decide.{ℕ_discrete}
use native.Mathlib.Omega.{arith}
use borrow.Author.Tests.{eq-eqb, ne_eqb, le-ltb}
use Rattle.sheet.specs.Sheet.{read_sheet}
use Rattle.sheet.proofs.Accepted.{sheet-accepted}
use Rattle.weigh.specs.Checks.{checked}
use Rattle.weigh.specs.Weigh.{weigh_answer}
use Rattle.weigh.proofs.Checks.{passes, checked-most}

module _ (s p : List ℕ) (size : ℕ) (long : 256 ≤ size) where
  -- the checks decide
  weigh-checked : (weigh_answer s p size).refusal ≡ checked s p
  unfolding weigh_answer
  weigh-checked =
      let k = checked s p in
      elim (ℕ_discrete k 0) [
        | no d ↦ rw (ne_eqb k 0 d)
        | yes e ↦
            let n_high = (sheet-accepted s (passes s p e).sheet).n_high in
            rw (eq-eqb k 0 e, le-ltb size (4 * (read_sheet s).n) (omega (arith, n_high))) (sym e)
      ]

  -- THEOREM. A call with a buffer of 256 bytes is never refused with 25, whatever the sheet and the plan.
  pub never_25 : (weigh_answer s p size).refusal ≢ 25
  never_25 e = omega (arith, weigh-checked, checked-most s p)
