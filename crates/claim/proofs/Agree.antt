-- Divisions, trees and due amounts look at the nodes' own helpands and shares alone: two pairs of functions that agree below N give the
-- same. So an array and what a record has of it may stand for each other. Assumes nothing.
use mathlib.Core.Path.{◌≡◌, sym, ap, ap₂, ◌∙◌}
use mathlib.Core.Bool.{not}
use Prim.Native.Nat.{ℕ, zero, suc, ◌+◌, ◌-◌, ◌<◌}
use native.Mathlib.Omega.{arith}
use lib.Dec.{eqb}
use Rattle.fold.specs.Sum.{only}
use Rattle.plan.specs.Tree.{walk, Tree}
use Rattle.plan.proofs.Trees.{walk_none, walk_more}
use Rattle.tree.specs.Family.{over_helpers}
use Rattle.tree.proofs.Families.{helpers_agree}
use Rattle.tree.specs.Division.{Division, WithinLimit, OnTarget, load, own_of}
use Rattle.transfer.specs.Due.{due_of}
use Rattle.transfer.proofs.Dues.{due-parts}

module _ (nodes : ℕ) (h h' : ℕ → ℕ) (same : (k : ℕ) → k < nodes → h k ≡ h' k) where
  -- ---- trees

  walk_agree : ((k : ℕ) → k < nodes → h k < nodes) → (steps k : ℕ) → k < nodes → walk h steps k ≡ walk h' steps k
  walk_agree inside zero k l = walk_none h k ∙ sym (walk_none h' k)
  walk_agree inside (suc steps) k l =
      walk_more h steps k ∙ walk_agree inside steps (h k) (inside k l) ∙ ap (walk h' steps) (same k l) ∙ sym (walk_more h' steps k)

  pub tree_agree : (r : ℕ) → Tree nodes h r → Tree nodes h' r
  tree_agree r t =
      record {
        root = t.root;
        own = sym (same r t.root) ∙ t.own;
        inside = λ k l. omega (arith, t.inside k l, same k l);
        reach = λ k l. sym (walk_agree t.inside nodes k l) ∙ t.reach k l;
      }

  -- ---- divisions

  module _ (total share share' : ℕ → ℕ) (shares : (k : ℕ) → k < nodes → share k ≡ share' k) where
    over_agree : (n : ℕ) → over_helpers nodes h n share ≡ over_helpers nodes h' n share'
    over_agree = helpers_agree nodes h h' share share' same shares

    own_agree : (n : ℕ) → own_of nodes h total share n ≡ own_of nodes h' total share' n
    own_agree n = ap (λ (x : ℕ). total n - x) (over_agree n)

    load_agree : (n : ℕ) → n < nodes → load h (own_of nodes h total share) share n ≡ load h' (own_of nodes h' total share') share' n
    load_agree n l =
        ap₂ ◌+◌ (own_agree n) (ap₂ (λ (x y : ℕ). only (not (eqb x n)) y) (same n l) (shares n l))

    division_agree : Division nodes h total (own_of nodes h total share) share → Division nodes h' total (own_of nodes h' total share') share'
    division_agree d = record { parts = λ n l. ap₂ ◌+◌ (sym (own_agree n)) (sym (over_agree n)) ∙ d.parts n l }

    pub within_agree : (limit : ℕ) → WithinLimit nodes h total limit (own_of nodes h total share) share
        → WithinLimit nodes h' total limit (own_of nodes h' total share') share'
    within_agree limit w = record { division = division_agree w.division; within = λ n l. omega (arith, load_agree n l, w.within n l) }

    pub target_agree : (target : ℕ → ℕ) → OnTarget nodes h total target (own_of nodes h total share) share
        → OnTarget nodes h' total target (own_of nodes h' total share') share'
    target_agree target w = record { division = division_agree w.division; on = λ n l. sym (load_agree n l) ∙ w.on n l }

    -- ---- due amounts

    pub due_agree : (n k : ℕ) → k < nodes → due_of nodes h total share n k ≡ due_of nodes h' total share' n k
    due_agree n k l =
        due-parts h share (own_of nodes h total share n) n k
        ∙ rw (same k l, shares k l, own_agree n) (sym (due-parts h' share' (own_of nodes h' total share' n) n k))
