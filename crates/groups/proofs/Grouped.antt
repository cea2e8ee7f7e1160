-- In a plan of kind 1 or 2 nobody is left out: every node is in a group, and the root in its own, which is even. Assumes nothing.
use mathlib.Core.Path.{◌≡◌, sym, ap, ◌∙◌}
use mathlib.Core.Logic.{◌≢◌, ◌⊎◌, inl, inr}
use mathlib.Core.Bool.{true}
use mathlib.Core.List.{List}
use Prim.Native.Nat.{ℕ, zero, suc, ◌<◌, ◌≤◌}
use native.Mathlib.Decide.{ℕ_discrete}
use native.Mathlib.Omega.{arith}
use lib.ListN.{length}
use Rattle.fold.proofs.Tests.{and_both}
use Rattle.arrays.specs.Arrays.{at}
use Rattle.plan.specs.Tree.{walk, Tree}
use Rattle.plan.specs.Plan.{read_plan, helpands_of}
use Rattle.plan.proofs.Accepted.{plan-accepted}
use Rattle.plan.proofs.AcceptedTree.{accepted-tree}
use Rattle.plan.proofs.Trees.{walk_none, walk-suc, walk_inside, tree-alone}
use Rattle.tree.proofs.Families.{helps-yes, helps-helpand}
use Rattle.groups.specs.declared.colour.Colour.{Colour}
use Rattle.groups.specs.declared.colour.Colour.TheVariants.{Even}
use Rattle.groups.specs.Colour.{distance, coloured}
use Rattle.groups.specs.Group.{has_helper, none, belongs}
use Rattle.groups.specs.Groups.{groups_answer, groups_after, entry_in}
use Rattle.groups.proofs.Distances.{distance-root, distance_is}
use Rattle.groups.proofs.Entries.{some-colour}
use Rattle.groups.proofs.Owners.{has-helper}
use Rattle.groups.proofs.Together.{belongs-owner, belongs-helpand}
use Rattle.groups.proofs.ReadBack.{plan_fine, groups_message}

-- a chain that leads to the root has a last node before it, which helps it
module _ {n : ℕ} {h : ℕ → ℕ} {r : ℕ} (t : Tree n h r) where
  last-helps : (k d : ℕ) → k < n → k ≢ r → walk h d k ≡ r → ((j : ℕ) → j < d → walk h j k ≢ r) → has_helper n h r ≡ true
  last-helps k zero l c e f = absurd (c (sym (walk_none h k) ∙ e))
  last-helps k (suc d) l c e f =
      has-helper n h r (walk h d k) (walk_inside h n t.inside d k l)
      (helps-yes h r (walk h d k) (sym (walk-suc h d k) ∙ e) (f d (omega arith)))

  root_helped : 2 ≤ n → has_helper n h r ≡ true
  root_helped many = elim (ℕ_discrete r 0) [
    | yes e ↦ by 1 (omega arith) (λ q. omega arith)
    | no c ↦ by 0 (omega arith) (λ q. c (sym q))
  ]
    where
      by : (k : ℕ) → k < n → k ≢ r → has_helper n h r ≡ true
      by k l c = last-helps k (distance n h k) l c (distance_is t k l).0 (distance_is t k l).1

module _ (p out : List ℕ) (q : (groups_answer p (length out)).refusal ≡ 0) (kind : (read_plan p).kind ≢ 0) where
  abbrev n₀ : ℕ
  n₀ = (read_plan p).n

  abbrev h₀ : ℕ → ℕ
  h₀ = at (helpands_of p n₀)

  abbrev entry : Colour → ℕ → ℕ
  entry = entry_in (groups_after p out) n₀

  tree : (r : ℕ) × Tree n₀ h₀ r
  tree = accepted-tree p (plan_fine p out q) kind

  many : 2 ≤ n₀
  many = by (plan-accepted p (plan_fine p out q)).alone
    where
      by : ((read_plan p).kind ≡ 0) ⊎ (n₀ ≢ 1) → 2 ≤ n₀
      by (inl z) = absurd (kind z)
      by (inr d) = omega (arith, (plan-accepted p (plan_fine p out q)).n_low, d)

  -- THEOREM. The root stands in its own group in the even colour.
  pub root-even : (r : ℕ) → Tree n₀ h₀ r → entry Even r ≡ r
  root-even r t =
      (groups_message p out q).owner Even r t.root (root_helped t many) (ap (coloured Even) (distance-root n₀ h₀ r t.own))

  -- a member of a family with a helper is in a group
  member_grouped : (m k : ℕ) → m < n₀ → k < n₀ → has_helper n₀ h₀ m ≡ true → belongs h₀ m k ≡ true → (c : Colour) × (entry c k ≢ none)
  member_grouped m k lm lk y b =
      let c = some-colour (distance n₀ h₀ m) in
      let e = ((groups_message p out q).named c.0 m k lm lk).1 (and_both _ _ (and_both _ _ y c.1) b) in
      (c.0, λ z. omega (arith, e, (plan-accepted p (plan_fine p out q)).n_high))

  -- THEOREM. Every node is in a group: in some colour its entry is not 64.
  pub every-node_grouped : (k : ℕ) → k < n₀ → (c : Colour) × (entry c k ≢ none)
  every-node_grouped k l = elim (ℕ_discrete (h₀ k) k) [
    | yes e ↦ member_grouped k k l l (rw (tree-alone tree.1 k l e) (root_helped tree.1 many)) (belongs-owner h₀ k)
    | no d ↦ member_grouped (h₀ k) k (tree.1.inside k l) l (has-helper n₀ h₀ (h₀ k) k l (helps-helpand h₀ k d)) (belongs-helpand h₀ k)
  ]
