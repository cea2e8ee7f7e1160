-- Laws of distances, for every number of nodes: a root is at 0, every other node one step farther than its helpand; and the distance is
-- the first step of the chain of helpands that stands at a root. Assumes nothing.
use mathlib.Core.Path.{◌≡◌, refl, sym, ap, ◌∙◌}
use mathlib.Core.Logic.{◌≢◌}
use mathlib.Core.Bool.{Bool, true, ◌||◌}
use Prim.Native.Nat.{ℕ, zero, suc, ◌≤◌, ◌<◌}
use native.Mathlib.Decide.{ℕ_discrete}
use native.Mathlib.Omega.{arith}
use borrow.Author.Tests.{eqb-true, eq-eqb, ne_eqb}
use Rattle.plan.specs.Tree.{reaches, walk, Tree}
use Rattle.plan.proofs.Trees.{walk_none, walk_more, walk_inside, walk-reaches, tree-alone}
use Rattle.groups.specs.Colour.{distance_within, distance}
use Rattle.groups.specs.Inner.{Rooted}

module _ (h : ℕ → ℕ) where
  -- the next step of a chain that is not at a root
  reached : (steps k : ℕ) → h k ≢ k → reaches h (suc steps) k ≡ true → reaches h steps (h k) ≡ true
  unfolding reaches
  reached steps k d e = ap (λ (b : Bool). b || reaches h steps (h k)) (sym (ne_eqb (h k) k d)) ∙ e

  stands : (k : ℕ) → reaches h 0 k ≡ true → h k ≡ k
  unfolding reaches
  stands k e = eqb-true (h k) k e

  within-root : (steps k : ℕ) → h k ≡ k → distance_within h steps k ≡ 0
  unfolding distance_within
  within-root zero k e = refl
  within-root (suc steps) k e = rw (eq-eqb (h k) k e)

  within_step : (steps k : ℕ) → h k ≢ k → distance_within h (suc steps) k ≡ suc (distance_within h steps (h k))
  unfolding distance_within
  within_step steps k d = rw (ne_eqb (h k) k d)

  within-most : (steps k : ℕ) → distance_within h steps k ≤ steps
  unfolding distance_within
  within-most zero k = omega arith
  within-most (suc steps) k = elim (ℕ_discrete (h k) k) [
    | yes e ↦ omega (arith, within-root (suc steps) k e)
    | no d ↦ omega (arith, within_step steps k d, within-most steps (h k))
  ]

  -- once the chain has reached a root, following it farther adds nothing
  within-stays : (steps k : ℕ) → reaches h steps k ≡ true → distance_within h (suc steps) k ≡ distance_within h steps k
  within-stays zero k r = within-root 1 k (stands k r) ∙ sym (within-root 0 k (stands k r))
  within-stays (suc steps) k r = elim (ℕ_discrete (h k) k) [
    | yes e ↦ within-root (suc (suc steps)) k e ∙ sym (within-root (suc steps) k e)
    | no d ↦ within_step (suc steps) k d ∙ ap suc (within-stays steps (h k) (reached steps k d r)) ∙ sym (within_step steps k d)
  ]

  within-next : (steps k : ℕ) → reaches h steps k ≡ true → h k ≢ k → distance_within h steps k ≡ suc (distance_within h steps (h k))
  within-next zero k r d = absurd (d (stands k r))
  within-next (suc steps) k r d = within_step steps k d ∙ ap suc (sym (within-stays steps (h k) (reached steps k d r)))

  -- the chain stands at a root after so many steps, and not before
  abbrev First : ℕ → ℕ → Type 0
  First k d = (h (walk h d k) ≡ walk h d k) × ((j : ℕ) → j < d → h (walk h j k) ≢ walk h j k)

  first-root : (k : ℕ) → h k ≡ k → First k 0
  first-root k e = (rw (walk_none h k) e, λ j l. absurd (omega arith))

  first_more : (k d : ℕ) → h k ≢ k → First (h k) d → First k (suc d)
  first_more k d c f = (rw (walk_more h d k) f.0, before)
    where
      before : (j : ℕ) → j < suc d → h (walk h j k) ≢ walk h j k
      before zero l = rw (walk_none h k) c
      before (suc j) l = rw (walk_more h j k) (f.1 j (omega arith))

  within_first : (steps k : ℕ) → reaches h steps k ≡ true → First k (distance_within h steps k)
  within_first zero k r = rw (within-root 0 k (stands k r)) (first-root k (stands k r))
  within_first (suc steps) k r = elim (ℕ_discrete (h k) k) [
    | yes e ↦ rw (within-root (suc steps) k e) (first-root k e)
    | no d ↦ rw (within_step steps k d) (first_more k (distance_within h steps (h k)) d (within_first steps (h k) (reached steps k d r)))
  ]

-- ---- of a plan's helpands

pub distance-root : (nodes : ℕ) (h : ℕ → ℕ) (k : ℕ) → h k ≡ k → distance nodes h k ≡ 0
distance-root nodes h = within-root h nodes

module _ {nodes : ℕ} {h : ℕ → ℕ} (t : Rooted nodes h) (k : ℕ) where
  pub distance-step : k < nodes → h k ≢ k → distance nodes h k ≡ suc (distance nodes h (h k))
  distance-step l = within-next h nodes k (t.reach k l)

  pub distance_most : distance nodes h k ≤ 64
  distance_most = omega (arith, within-most h nodes k, t.few)

-- THEOREM. In a tree a node's distance is the number of steps of its chain of helpands to the root: so many lead there, and fewer do not.
pub distance_is : {nodes : ℕ} {h : ℕ → ℕ} {r : ℕ} (t : Tree nodes h r) (k : ℕ) → k < nodes
    → (walk h (distance nodes h k) k ≡ r) × ((j : ℕ) → j < distance nodes h k → walk h j k ≢ r)
distance_is {nodes} {h} {r} t k l =
    let f = within_first h nodes k (walk-reaches h nodes k (rw (t.reach k l) t.own)) in (
      tree-alone t (walk h (distance nodes h k) k) (walk_inside h nodes t.inside (distance nodes h k) k l) f.0,
      λ j b e. f.1 j b (rw e t.own),
    )
