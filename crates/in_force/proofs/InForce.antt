-- What *tree in force* hands back: the helpand stretch of an accepted plan or nothing, and it reads as the helpands of the new plan.
-- Everything follows from what is known where no test of the definition passed. Assumes nothing.
use mathlib.Core.Path.{◌≡◌, refl, sym, ap, subst, ◌∙◌}
use mathlib.Core.Logic.{◌≢◌, ◌⊎◌, inl, inr, ⊎_elim}
use mathlib.Core.Bool.{true, false, not, ◌||◌, ◌&&◌}
use mathlib.Core.List.{List, []}
use Prim.Native.Nat.{ℕ, ◌+◌, ◌*◌, ◌≤◌, ◌<◌}
use native.Mathlib.Decide.{ℕ_discrete}
use native.Mathlib.Omega.{arith}
use borrow.Author.Tests.{eqb-true, eqb-false, eq-eqb, ne_eqb, not-false}
use lib.Dec.{eqb}
use lib.ListN.{length, take, drop, length-take, length-drop}
use denote.Ref.{Bor}
use Rattle.fold.specs.All.{all}
use Rattle.fold.proofs.Tests.{either, or_left, or_right, all-at}
use Rattle.limit.specs.Limit.{max_nodes}
use Rattle.words.specs.Words.{words}
use Rattle.plan.specs.declared.PlanAnswer.{PlanAnswer}
use Rattle.plan.specs.Tree.{is_root, Tree}
use Rattle.plan.specs.Plan.{helpands_of, read_plan}
use Rattle.plan.proofs.Trees.{tree-alone}
use Rattle.plan.proofs.Accepted.{Accepted, plan-accepted, helpands_are}
use Rattle.plan.proofs.AcceptedTree.{accepted-tree}
use Rattle.in_force.specs.declared.PartAnswer.{PartAnswer}
use Rattle.in_force.specs.InForce.{Where, of_old, of_new, empty_stretch, is_refused, same_helpands, no_tree, in_force, Points, part_of}
use Rattle.in_force.proofs.Stretch.{words-part}
use Rattle.in_force.proofs.Same.{same-list}
use Rattle.arrays.specs.Arrays.{at}

-- ---- no test passed

-- both plans are accepted and of one N, and under a kept tree they have the same helpands
pub record Agreed (old new : List ℕ) : Type 0 where
  pub old_accepted : Accepted old (read_plan old)
  pub new_accepted : Accepted new (read_plan new)
  pub nodes : (read_plan old).n ≡ (read_plan new).n
  pub tree : (read_plan new).kind ≡ 1 → (read_plan old).kind ≢ 0
  pub same : (read_plan new).kind ≡ 1 → helpands_of old (read_plan new).n ≡ helpands_of new (read_plan new).n

module _ (old new : List ℕ) where
  agreed : (let n = (read_plan new).n in
      no_tree (read_plan old) (read_plan new) (same_helpands n (at (helpands_of old n)) (at (helpands_of new n))) ≡ false)
      → Agreed old new
  agreed f =
      let a = read_plan old in
      let b = read_plan new in
      let n = b.n in
      let h = at (helpands_of old n) in
      let g = at (helpands_of new n) in
      let last = eqb b.kind 1 && (eqb a.kind 0 || not (same_helpands n h g)) in
      let f₃ = or_left (is_refused a || is_refused b || not (eqb a.n n)) last f in
      let f₂ = or_left (is_refused a || is_refused b) (not (eqb a.n n)) f₃ in
      let x = plan-accepted old (eqb-true a.refusal 0 (not-false (eqb a.refusal 0) (or_left (is_refused a) (is_refused b) f₂))) in
      let y = plan-accepted new (eqb-true b.refusal 0 (not-false (eqb b.refusal 0) (or_right (is_refused a) (is_refused b) f₂))) in
      let e : a.n ≡ n = eqb-true a.n n (not-false (eqb a.n n) (or_right (is_refused a || is_refused b) (not (eqb a.n n)) f₃)) in
      let kept : b.kind ≡ 1 → (eqb a.kind 0 || not (same_helpands n h g)) ≡ false =
      λ k. rw (eq-eqb b.kind 1 k) at (or_right (is_refused a || is_refused b || not (eqb a.n n)) last f) in
      let l : length (helpands_of old n) ≡ n = rw e at (helpands_are old a x) in
      let m : length (helpands_of new n) ≡ n = helpands_are new b y in
      record {
        old_accepted = x;
        new_accepted = y;
        nodes = e;
        tree = λ k. eqb-false a.kind 0 (or_left (eqb a.kind 0) (not (same_helpands n h g)) (kept k));
        same = λ k.
            let s = not-false (same_helpands n h g) (or_right (eqb a.kind 0) (not (same_helpands n h g)) (kept k)) in
            same-list n (helpands_of old n) (helpands_of new n) l m s;
      }

  -- what holds of the empty stretch, of the old plan's and of the new plan's, holds of the one in force
  pub force_by : (P : Where → Type 0)
      → P empty_stretch
      → (Agreed old new → (read_plan new).kind ≡ 1 → P (of_old 12 (4 * (read_plan new).n)))
      → (Agreed old new → (read_plan new).kind ≢ 1 → P (of_new 12 (4 * (read_plan new).n)))
      → P (in_force old new)
  unfolding in_force
  force_by P none kept other =
      let n = (read_plan new).n in
      ⊎_elim
      (λ t. rw t none)
      (λ f. rw f (elim (ℕ_discrete (read_plan new).kind 1) [
        | yes e ↦ rw (eq-eqb (read_plan new).kind 1 e) (kept (agreed f) e)
        | no d ↦ rw (ne_eqb (read_plan new).kind 1 d) (other (agreed f) d)
      ]))
      (either (no_tree (read_plan old) (read_plan new) (same_helpands n (at (helpands_of old n)) (at (helpands_of new n)))))

-- ---- where the stretch lies: inside its plan, and as the two plans are of one length, its place is inside the other one too

abbrev pub Within : Where → List ℕ → List ℕ → Type 0
Within w old new =
    let end = (part_of w).start + (part_of w).length in
    (end ≤ length old) × (end ≤ length new) × ((part_of w).length ≤ 4 * max_nodes)

pub force_within : (old new : List ℕ) → Within (in_force old new) old new
force_within old new =
    force_by old new (λ w. Within w old new)
    (omega arith, omega arith, omega arith)
    (λ g k. fits g)
    (λ g k. fits g)
  where
    fits : Agreed old new → (let n = (read_plan new).n in
        (12 + 4 * n ≤ length old) × (12 + 4 * n ≤ length new) × (4 * n ≤ 4 * max_nodes))
    fits g =
        let x = g.old_accepted.size in
        let y = g.new_accepted.size in
        (omega (arith, g.nodes), omega arith, omega (arith, g.new_accepted.n_high))

-- the same of a stretch that is known to be the one in force
pub in_force_within : (old new : List ℕ) (w : Where) → w ≡ in_force old new → Within w old new
in_force_within old new w e = subst (λ (x : Where). Within x old new) (sym e) (force_within old new)

-- ---- what it holds

-- the plan that a stretch is of, and its bytes
abbrev pub stretch_plan : Where → List ℕ → List ℕ → List ℕ
stretch_plan (of_old a n) old new = old
stretch_plan (of_new a n) old new = new

abbrev pub bytes_in : Where → List ℕ → List ℕ → List ℕ
bytes_in (of_old a n) old new = take n (drop a old)
bytes_in (of_new a n) old new = take n (drop a new)

-- s is the helpand stretch of the accepted plan p
pub record HelpandStretch (p s : List ℕ) : Type 0 where
  pub accepted : (read_plan p).refusal ≡ 0
  pub size : length s ≡ 4 * (read_plan p).n
  pub reads : words s ≡ helpands_of p (read_plan p).n

is-accepted : (p : List ℕ) → Accepted p (read_plan p) → (read_plan p).refusal ≡ 0
is-accepted p x = ap (λ (a : PlanAnswer). a.refusal) x.answer

stretch_of : (p : List ℕ) (n : ℕ) → Accepted p (read_plan p) → (read_plan p).n ≡ n → HelpandStretch p (take (4 * n) (drop 12 p))
stretch_of p n x e =
    let size = x.size in
    record {
      accepted = is-accepted p x;
      size = simp (length-take, length-drop) (omega arith);
      reads = words-part 3 n p ∙ ap (helpands_of p) (sym e);
    }

-- THEOREM: What is handed back, unless it is the empty stretch, is the 4N bytes of helpands of the old or the new plan, which was
-- accepted, and reads as that plan's helpands.
pub force_stretch : (old new : List ℕ) → in_force old new ≢ empty_stretch
    → HelpandStretch (stretch_plan (in_force old new) old new) (bytes_in (in_force old new) old new)
force_stretch old new =
    force_by old new (λ w. w ≢ empty_stretch → HelpandStretch (stretch_plan w old new) (bytes_in w old new))
    (λ d. absurd (d refl))
    (λ g k d. stretch_of old (read_plan new).n g.old_accepted g.nodes)
    (λ g k d. stretch_of new (read_plan new).n g.new_accepted refl)

-- THEOREM: Whatever the kind, and so also where the old plan's stretch is handed back, it reads as the helpands of the new plan.
pub force_reads : (old new : List ℕ) → in_force old new ≢ empty_stretch
    → words (bytes_in (in_force old new) old new) ≡ helpands_of new (read_plan new).n
force_reads old new =
    force_by old new (λ w. w ≢ empty_stretch → words (bytes_in w old new) ≡ helpands_of new (read_plan new).n)
    (λ d. absurd (d refl))
    (λ g k d. words-part 3 (read_plan new).n old ∙ g.same k)
    (λ g k d. words-part 3 (read_plan new).n new)

-- THEOREM: Other than the empty stretch is handed back only where both plans are accepted and have the same N and, if the new kind is
-- 1, the old kind is not 0 and the helpands are the same.
pub force_agreed : (old new : List ℕ) → in_force old new ≢ empty_stretch → Agreed old new
force_agreed old new =
    force_by old new (λ w. w ≢ empty_stretch → Agreed old new) (λ d. absurd (d refl)) (λ g k d. g) (λ g k d. g)

-- ---- the reference that the function hands back

pub points_bytes : (w : Where) (r old new : Bor (List ℕ)) → Points w r old new → r.now ≡ bytes_in w old.now new.now
points_bytes (of_old a n) r old new p = p.holds
points_bytes (of_new a n) r old new p = p.holds

-- THEOREM: What a reference that meets the contract of `tree_in_force` holds is empty, or reads as the helpands of the new plan.
pub handed-reads : (r old new : Bor (List ℕ)) → Points (in_force old.now new.now) r old new
    → (r.now ≡ []) ⊎ (words r.now ≡ helpands_of new.now (read_plan new.now).n)
handed-reads r old new p =
    rw (points_bytes (in_force old.now new.now) r old new p)
    (force_by old.now new.now
    (λ w. (bytes_in w old.now new.now ≡ []) ⊎ (words (bytes_in w old.now new.now) ≡ helpands_of new.now (read_plan new.now).n))
    (inl refl)
    (λ g k. inr (words-part 3 (read_plan new.now).n old.now ∙ g.same k))
    (λ g k. inr (words-part 3 (read_plan new.now).n new.now)))

-- THEOREM: Where the new kind is 1 or 2, the helpands that are handed back are a tree.
pub force_tree : (old new : List ℕ) → in_force old new ≢ empty_stretch → (read_plan new).kind ≢ 0
    → (r : ℕ) × Tree (read_plan new).n (at (words (bytes_in (in_force old new) old new))) r
force_tree old new d k =
    rw (force_reads old new d) (accepted-tree new (is-accepted new (force_agreed old new d).new_accepted) k)

-- THEOREM: An old plan of kind 0 has other helpands than a new one of kind 1: only roots, where the other has one root and two nodes
-- or more. So the test of the old kind, which the paper names, decides nothing that the comparison would not.
pub primary-other : (old new : List ℕ) → (read_plan old).refusal ≡ 0 → (read_plan new).refusal ≡ 0 → (read_plan old).n ≡ (read_plan new).n
    → (read_plan old).kind ≡ 0 → (read_plan new).kind ≡ 1
    → helpands_of old (read_plan new).n ≢ helpands_of new (read_plan new).n
primary-other old new p q e z k same =
    let x = plan-accepted old p in
    let y = plan-accepted new q in
    let n = (read_plan new).n in
    let two : 2 ≤ n = ⊎_elim (λ u. omega arith) (λ u. omega (arith, y.n_low)) y.alone in
    let roots : all n (is_root (at (helpands_of old n))) ≡ true = rw (e, eq-eqb (read_plan old).kind 0 z) at x.shape in
    let t = accepted-tree new q (λ u. omega arith) in
    let root : (i : ℕ) → i < n → at (helpands_of new n) i ≡ i =
    λ i b. ap (λ (l : List ℕ). at l i) (sym same)
    ∙ eqb-true (at (helpands_of old n) i) i (all-at n (is_root (at (helpands_of old n))) roots i b) in
    omega (arith, tree-alone t.1 0 (omega arith) (root 0 (omega arith)), tree-alone t.1 1 (omega arith) (root 1 (omega arith)))

-- THEOREM: The numbers of an answer determine the stretch.
pub part_determines : (v w : Where) → part_of v ≡ part_of w → v ≡ w
part_determines (of_old a n) (of_old b m) e = ap (λ (x : PartAnswer). of_old x.start x.length) e
part_determines (of_new a n) (of_new b m) e = ap (λ (x : PartAnswer). of_new x.start x.length) e
part_determines (of_old a n) (of_new b m) e = absurd (omega (arith, ap (λ (x : PartAnswer). x.source) e))
part_determines (of_new a n) (of_old b m) e = absurd (omega (arith, ap (λ (x : PartAnswer). x.source) e))
