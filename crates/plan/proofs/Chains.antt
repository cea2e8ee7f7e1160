-- Laws of chains of helpands, one for each way that a step of the search can go. Assumes nothing.
use mathlib.Core.Path.{◌≡◌, refl}
use mathlib.Core.Bool.{true, false}
use Prim.Native.Nat.{ℕ, zero, suc, ◌-◌}
use native.Mathlib.Numerals.{sub-one}
use borrow.Author.Tests.{eq-eqb, ne_eqb}
use Rattle.plan.specs.Tree.{reaches}

module _ (h : ℕ → ℕ) (k : ℕ) where
  -- a root has arrived, however many steps are left
  pub reaches-root : (steps : ℕ) → h k ≡ k → reaches h steps k ≡ true
  unfolding reaches
  reaches-root zero e = eq-eqb (h k) k e
  reaches-root (suc steps) e = rw (eq-eqb (h k) k e)

  -- no step is left
  pub reaches-none : (steps : ℕ) → (h k ≡ k → ⊥) → steps ≡ 0 → reaches h steps k ≡ false
  unfolding reaches
  reaches-none steps d z = rw z (ne_eqb (h k) k d)

  pub reaches_step : (steps : ℕ) → (h k ≡ k → ⊥) → (steps ≡ 0 → ⊥) → reaches h steps k ≡ reaches h (steps - 1) (h k)
  unfolding reaches
  reaches_step zero d z = absurd (z refl)
  reaches_step (suc steps) d z = rw (ne_eqb (h k) k d, sub-one)
