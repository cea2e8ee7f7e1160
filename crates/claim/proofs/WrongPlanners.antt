-- Document 01, 'Contracts and cases': planners that demand 3 shuts out. Whatever plan and sheet such a planner writes, it does not meet the
-- claim; nothing here speaks of the planner that we have. Assumes nothing.
use mathlib.Core.Path.{◌≡◌, refl}
use mathlib.Core.Logic.{⊎_elim}
use mathlib.Core.Bool.{not}
use mathlib.Core.List.{List}
use Prim.Native.Nat.{ℕ, ◌<◌}
use native.Mathlib.Omega.{arith}
use Rattle.fold.proofs.Tests.{only-max}
use Rattle.arrays.specs.Arrays.{at}
use Rattle.sheet.specs.Sheet.{read_sheet}
use Rattle.sheet.specs.Totals.{totals_in}
use Rattle.plan.specs.Tree.{is_root}
use Rattle.rebuild.specs.Target.{target_of}
use Rattle.claim.specs.Claim.{AcceptedTree, Rival, Balanced, helpand, own, share}

module _ (s o plan next : List ℕ) where
  -- THEOREM. "a planner that rebuilds at every overload, or declares the tree broken unweighed": where a rival's division exists, no plan
  -- of kind 2 will do.
  pub rebuilding_shut_out : AcceptedTree s o → Rival s o → Balanced s o plan next 2 → ⊥
  rebuilding_shut_out t r b = omega (arith, (b.kept t).1 r)

  -- THEOREM. One that keeps a tree along which there is no rival's division.
  pub keeping_shut_out : AcceptedTree s o → (Rival s o → ⊥) → Balanced s o plan next 1 → ⊥
  keeping_shut_out t r b = r ((b.kept t).0 refl)

  -- THEOREM. One that answers that all is primary.
  pub primary_shut_out : Balanced s o plan next 0 → ⊥
  primary_shut_out b = ⊎_elim (λ e. omega (arith, e)) (λ e. omega (arith, e)) b.otherwise

  -- THEOREM. "one that places the first helper and hands the others share 0": in a plan of kind 2 each node whose own subdomain has less
  -- than its target has a share, so that no helper but the first is handed 0.
  pub shares_shut_out : (k : ℕ) → k < (read_sheet s).n → at (totals_in s) k < target_of (read_sheet s).n (read_sheet s).p k → share s plan k ≡ 0
      → Balanced s o plan next 2 → ⊥
  shares_shut_out k l under z b =
      omega (arith, (b.rebuilt_division refl).on k l, only-max (not (is_root (helpand s plan) k)) (share s plan k))

  -- THEOREM. The same in a plan of kind 1: where its helpers' shares leave an owner more than the limit, it will not do.
  pub owner_shut_out : (n : ℕ) → n < (read_sheet s).n → (read_sheet s).limit < own s plan n → Balanced s o plan next 1 → ⊥
  owner_shut_out n l above b = omega (arith, (b.kept_division refl).within n l)
