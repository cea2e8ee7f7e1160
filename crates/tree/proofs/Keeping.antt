-- A division within the limit exists exactly when the tree holds. Whoever divides, an owner gets at least its least, at every depth.
-- And where no least is above the limit, each family can be filled from the root down: the owner first, then the helpers in turn.
-- Assumes nothing.
use mathlib.Core.Path.{◌≡◌, refl, ap}
use mathlib.Core.Logic.{◌↔◌}
use mathlib.Core.Bool.{true, not, cond}
use Prim.Native.Nat.{ℕ, zero, suc, ◌-◌, ◌≤◌, ◌<◌, min}
use native.Mathlib.Omega.{arith}
use lib.Dec.{eqb, leb}
use borrow.Author.Tests.{eq-eqb, ne_eqb, le-leb, leb-true}
use Rattle.fold.proofs.Tests.{only-is, all-at, all_of}
use Rattle.plan.specs.Tree.{is_root, Tree}
use Rattle.tree.specs.Family.{helps, over_helpers}
use Rattle.tree.specs.Least.{least_within, spare_within, least, holds}
use Rattle.tree.specs.Down.{down}
use Rattle.tree.specs.Division.{WithinLimit, own_of}
use Rattle.tree.proofs.Families.{helps-ne, helper_no_root, helpers_le, helpers_eq, helpers_in_turn}
use Rattle.tree.proofs.Weighing.{least-is}
use Rattle.tree.proofs.Filling.{Fills, family_room, down_descends, descends_within}

module _ (nodes : ℕ) (h total : ℕ → ℕ) (limit : ℕ) where
  -- ---- the tree holds when there is a division within the limit

  least-own : (own share : ℕ → ℕ) → WithinLimit nodes h total limit own share → (depth n : ℕ) → n < nodes
      → least_within nodes h total limit depth n ≤ own n
  unfolding least_within
  least-own own share w zero n l = omega arith
  least-own own share w (suc depth) n l =
      omega (
        arith,
        w.division.parts n l,
        helpers_le nodes h n share (spare_within nodes h total limit depth)
            (λ k b e. omega (
              arith,
              w.within k b,
              only-is (not (is_root h k)) (share k) (ap not (helper_no_root h n k e)),
              least-own own share w depth k b,
            )),
      )

  pub holds_at : holds nodes h total limit ≡ true → (n : ℕ) → n < nodes → least nodes h total limit n ≤ limit
  holds_at e n l = leb-true (least nodes h total limit n) limit (all-at nodes (λ k. leb (least nodes h total limit k) limit) e n l)

  pub holds_of : ((n : ℕ) → n < nodes → least nodes h total limit n ≤ limit) → holds nodes h total limit ≡ true
  holds_of p = all_of nodes (λ k. leb (least nodes h total limit k) limit) (λ n l. le-leb (least nodes h total limit n) limit (p n l))

  within-holds : (own share : ℕ → ℕ) → WithinLimit nodes h total limit own share → holds nodes h total limit ≡ true
  within-holds own share w = holds_of (λ n l. omega (arith, least-own own share w (suc nodes) n l, w.within n l))

  -- ---- there is a division within the limit when the tree holds

  abbrev lst : ℕ → ℕ
  lst = least nodes h total limit

  abbrev spare : ℕ → ℕ
  spare k = limit - lst k

  -- what node k gets of subdomain n, whose owner has share r: the owner takes what it has space for, and the helpers the rest in turn
  fill : ℕ → ℕ → ℕ → ℕ
  fill r n k = cond (eqb k n) (min (total n) (limit - r)) (min (total n - (limit - r) - over_helpers k h n spare) (spare k))

  fill-own : (r n : ℕ) → fill r n n ≡ min (total n) (limit - r)
  unfolding fill
  fill-own r n = rw (eq-eqb n n refl)

  fill-helper : (r n k : ℕ) → helps h n k ≡ true → fill r n k ≡ min (total n - (limit - r) - over_helpers k h n spare) (spare k)
  unfolding fill
  fill-helper r n k e = rw (ne_eqb k n (helps-ne h n k e))

  module _ (r : ℕ) (t : Tree nodes h r) where
    fills : holds nodes h total limit ≡ true → Fills nodes h total limit lst fill
    fills e =
        record {
          owner = λ x n. omega (arith, fill-own x n);
          helper = λ x n k y. omega (arith, fill-helper x n k y);
          whole = λ x n l s. omega (
            arith,
            fill-own x n,
            helpers_eq nodes h n (fill x n) (λ k. min (total n - (limit - x) - over_helpers k h n spare) (spare k))
                (λ k b y. fill-helper x n k y),
            helpers_in_turn h n spare nodes (total n - (limit - x)),
            family_room nodes h total limit lst n x (least-is nodes h total limit r t n) (holds_at e n l) s,
          );
        }

    holds-within : holds nodes h total limit ≡ true → (own : ℕ → ℕ) × (share : ℕ → ℕ) × WithinLimit nodes h total limit own share
    holds-within e =
        let share = down h fill nodes in (
          own_of nodes h total share,
          share,
          descends_within (fills e) (down_descends nodes h fill r t),
        )

    -- THEOREM. For every tree, counts and limit, a division within the limit exists exactly when the tree holds.
    pub division_iff_holds :
        ((own : ℕ → ℕ) × (share : ℕ → ℕ) × WithinLimit nodes h total limit own share) ↔ (holds nodes h total limit ≡ true)
    division_iff_holds = ((λ w. within-holds w.0 w.1 w.2), holds-within)
