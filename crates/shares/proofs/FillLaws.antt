-- Laws of `fill`, all that is used of it elsewhere: no member gets more than its space or less than it keeps, all of the rest is given
-- where there is room for it, the amounts are levelled, and the level form is the same. Assumes nothing.
use mathlib.Core.Path.{◌≡◌, refl}
use Prim.Native.Nat.{ℕ, ◌+◌, ◌-◌, ◌≤◌, ◌<◌}
use native.Mathlib.Decide.{dec_lt}
use native.Mathlib.Omega.{arith}
use Rattle.fold.specs.Sum.{sum}
use Rattle.arrays.specs.Arrays.{at, tabulate}
use Rattle.arrays.proofs.Tabulate.{tabulate-at, tabulate-behind, tabulate-long}
use Rattle.shares.specs.Fill.{room, fill}
use Rattle.shares.specs.Inner.{over, Lowest, gets}
use Rattle.shares.proofs.Levelled.{Levelled, fill-levelled, levelled-one, levelled-eq, fill-behind}
use Rattle.shares.proofs.LevelForm.{UpTo, level-levelled}

pub fill_none : (nodes : ℕ) (beside space kept : ℕ → ℕ) (k : ℕ) → k < nodes
    → at (fill nodes beside space (tabulate nodes kept) 0) k ≡ kept k
unfolding fill
fill_none nodes beside space kept k l = tabulate-at nodes kept k l

module _ (nodes : ℕ) (beside space kept : ℕ → ℕ) (rest : ℕ) where
  abbrev filled : ℕ → ℕ
  filled = at (fill nodes beside space (tabulate nodes kept) rest)

  pub levelled : Levelled nodes beside space kept rest filled
  levelled =
      levelled-eq (fill-levelled nodes beside space (tabulate nodes kept) rest (tabulate-long nodes kept)) (λ k l. refl) (λ k l. refl)
      (tabulate-at nodes kept)

  pub fill-space : (k : ℕ) → kept k ≤ space k → filled k ≤ space k
  fill-space k h = elim (dec_lt k nodes) [
    | yes l ↦ omega (arith, levelled.fits k l)
    | no d ↦
        omega (arith, fill-behind nodes beside space rest (tabulate nodes kept) k (omega arith), tabulate-behind nodes kept k (omega arith))
  ]

  pub fill-keeps : (k : ℕ) → k < nodes → kept k ≤ filled k
  fill-keeps k l = levelled.keeps k l

  pub fill-sum : rest ≤ sum nodes (room space kept) → sum nodes filled ≡ sum nodes kept + rest
  fill-sum h = omega (arith, levelled.adds)

  -- the level form
  pub fill-level : (limit level : ℕ) → UpTo limit nodes beside space → Lowest nodes (room space kept) rest level
      → (k : ℕ) → k < nodes → filled k ≡ kept k + gets (room space kept) level (rest - over nodes (room space kept) level) k
  fill-level limit level up p = levelled-one levelled (level-levelled nodes limit beside space kept rest level up p)
