-- In an accepted plan of any kind every chain of helpands leads to a root, and kind 0 has no helper. Assumes nothing.
use mathlib.Core.Path.{◌≡◌, sym, ap, ◌∙◌}
use mathlib.Core.Bool.{true, false}
use mathlib.Core.List.{List}
use Prim.Native.Nat.{ℕ, ◌<◌}
use native.Mathlib.Decide.{ℕ_discrete}
use borrow.Author.Tests.{ltb-true, eqb-true, eq-eqb, ne_eqb}
use lib.Dec.{ltb, eqb}
use Rattle.fold.proofs.Tests.{and_right, all-at}
use Rattle.arrays.specs.Arrays.{at, padded}
use Rattle.arrays.proofs.Padded.{padded-same}
use Rattle.plan.specs.Tree.{is_root, roots, reaches, shape_fine}
use Rattle.plan.specs.declared.PlanAnswer.{PlanAnswer}
use Rattle.plan.specs.Plan.{read_plan, helpands_of, accepted}
use Rattle.plan.proofs.Accepted.{plan-accepted}
use Rattle.plan.proofs.Chains.{reaches-root}
use Rattle.tree.proofs.Families.{helps_self, helps-other}
use Rattle.groups.specs.declared.colour.Colour.{Colour}
use Rattle.groups.specs.Group.{has_helper, none, group_in}
use Rattle.groups.specs.Inner.{Rooted}
use Rattle.groups.proofs.Owners.{has-none}

module _ (n kind : ℕ) (h : ℕ → ℕ) (shape : shape_fine n kind h ≡ true) where
  primary-root : kind ≡ 0 → (k : ℕ) → k < n → h k ≡ k
  primary-root z k l = eqb-true (h k) k (all-at n (is_root h) (rw (eq-eqb kind 0 z) at shape) k l)

  shape-reach : (k : ℕ) → k < n → reaches h n k ≡ true
  shape-reach k l = elim (ℕ_discrete kind 0) [
    | yes z ↦ reaches-root h k n (primary-root z k l)
    | no d ↦ all-at n (reaches h n) (and_right (eqb (roots n h) 1) _ (rw (ne_eqb kind 0 d) at shape)) k l
  ]

  -- "Kind 0 gives 64 everywhere": nobody helps
  module _ (z : kind ≡ 0) where
    no_helper : (m : ℕ) → has_helper n h m ≡ false
    no_helper m = has-none n h m (λ k l. elim (ℕ_discrete k m) [
      | yes e ↦ helps_self h m k e
      | no d ↦ helps-other h m k (λ q. d (sym (primary-root z k l) ∙ q))
    ])

    pub primary-none : (c : Colour) (k : ℕ) → group_in n h c k ≡ none
    primary-none c k = rw (no_helper k, no_helper (h k))

module _ (p : List ℕ) (q : (read_plan p).refusal ≡ 0) where
  abbrev n₀ : ℕ
  n₀ = (read_plan p).n

  abbrev h₀ : ℕ → ℕ
  h₀ = at (helpands_of p n₀)

  pub plan-rooted : Rooted n₀ h₀
  plan-rooted =
      let a = plan-accepted p q in
      record {
        few = a.n_high;
        inside = λ k l. ltb-true (h₀ k) n₀ (all-at n₀ (λ j. ltb (h₀ j) n₀) a.below k l);
        reach = shape-reach n₀ (read_plan p).kind h₀ a.shape;
      }

  pub kind-none : (read_plan p).kind ≡ 0 → (c : Colour) (k : ℕ) → group_in n₀ h₀ c k ≡ none
  kind-none z = primary-none n₀ (read_plan p).kind h₀ (plan-accepted p q).shape z

-- the same of a plan that was read
module _ (p : List ℕ) {n kind limit : ℕ} (read : accepted n kind limit ≡ read_plan p) where
  fine : (read_plan p).refusal ≡ 0
  fine = ap (λ (a : PlanAnswer). a.refusal) (sym read)

  nodes : (read_plan p).n ≡ n
  nodes = ap (λ (a : PlanAnswer). a.n) (sym read)

  pub array_rooted : Rooted n (at (padded (helpands_of p n)))
  array_rooted = rw (padded-same (helpands_of p n)) (rw nodes at (plan-rooted p fine))

  pub reading_none : kind ≡ 0 → (c : Colour) (k : ℕ) → group_in n (at (helpands_of p n)) c k ≡ none
  reading_none z = rw nodes at (kind-none p fine (ap (λ (a : PlanAnswer). a.kind) (sym read) ∙ z))
