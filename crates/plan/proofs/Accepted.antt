-- What is known of a plan that was accepted: no check refused, so each of its tests failed; and that this is enough to be accepted.
-- Assumes nothing.
use mathlib.Core.Path.{◌≡◌, refl, sym, ap, subst, ◌∙◌}
use mathlib.Core.Logic.{◌≢◌, ◌⊎◌, inl, inr}
use mathlib.Core.Bool.{Bool, true, false, not, ◌||◌, or-true}
use mathlib.Core.List.{List}
use Prim.Native.Nat.{ℕ, ◌+◌, ◌*◌, ◌≤◌, ◌<◌}
use native.Mathlib.Decide.{ℕ_discrete}
use native.Mathlib.Omega.{arith}
use borrow.Author.Tests.{ltb-false, leb-true, eqb-true, eqb-false, not-true, not-false, le-leb, eq-eqb, ne_eqb}
use lib.Dec.{ltb, leb, eqb}
use lib.ListN.{length, get_or}
use Rattle.fold.proofs.Tests.{and_left, and_right, passed}
use Rattle.limit.specs.Limit.{max_nodes, max_limit, one_to}
use Rattle.limit.proofs.Laws.{one-to-is, one-to_of}
use Rattle.words.specs.Words.{words}
use Rattle.words.proofs.Words.{length-words, length_part}
use Rattle.plan.specs.declared.Plan.{Plan}
use Rattle.plan.specs.declared.PlanAnswer.{PlanAnswer}
use Rattle.plan.specs.Tree.{helpands_below, shape_fine, shares_fine}
use Rattle.plan.specs.Plan.{refused, accepted, answer_of, helpands_of, shares_of, kind_fine, arrays_answer, head_answer, read_plan}
use Rattle.plan.proofs.Reading.{read_head, head_fine, arrays_fine}
use Rattle.arrays.specs.Arrays.{at}
use Rattle.words.specs.Checks.{refuse_if}
use Rattle.std.specs.Prelude.{Ok}

-- the answer a of an accepted plan s
pub record Accepted (s : List ℕ) (a : PlanAnswer) : Type 0 where
  pub answer : a ≡ accepted a.n a.kind a.limit
  pub n_is : a.n ≡ get_or (words s) 0 0
  pub kind_is : a.kind ≡ get_or (words s) 1 0
  pub limit_is : a.limit ≡ get_or (words s) 2 0
  pub n_low : 1 ≤ a.n
  pub n_high : a.n ≤ max_nodes
  pub kind_high : a.kind ≤ 2
  pub alone : (a.kind ≡ 0) ⊎ (a.n ≢ 1)
  pub limit_high : a.limit ≤ max_limit
  pub size : length s ≡ 4 * (3 + 2 * a.n)
  pub below : helpands_below a.n (at (helpands_of s a.n)) ≡ true
  pub shape : shape_fine a.n a.kind (at (helpands_of s a.n)) ≡ true
  pub shares : shares_fine a.n a.limit (at (helpands_of s a.n)) (at (shares_of s a.n)) ≡ true

-- ---- the test of the kind

pub kind_two : (n kind : ℕ) → kind_fine n kind ≡ true → kind ≤ 2
kind_two n kind e = leb-true kind 2 (and_left (leb kind 2) (eqb kind 0 || not (eqb n 1)) e)

pub kind-alone : (n kind : ℕ) → kind_fine n kind ≡ true → (kind ≡ 0) ⊎ (n ≢ 1)
kind-alone n kind e =
    let f = and_right (leb kind 2) (eqb kind 0 || not (eqb n 1)) e in
    elim (ℕ_discrete kind 0) [
      | yes z ↦ inl z
      | no d ↦ inr (eqb-false n 1 (not-true (eqb n 1) (rw (ne_eqb kind 0 d) at f)))
    ]

pub kind_fine_of : (n kind : ℕ) → kind ≤ 2 → (kind ≡ 0) ⊎ (n ≢ 1) → kind_fine n kind ≡ true
kind_fine_of n kind h (inl z) = rw (le-leb kind 2 h, eq-eqb kind 0 z)
kind_fine_of n kind h (inr d) = rw (le-leb kind 2 h, ne_eqb n 1 d, or-true)

-- ---- the inversion

-- a check that did not refuse
went : (b : Bool) (k : ℕ) (rest : PlanAnswer) → 0 < k → (refuse_if b (refused k) rest).refusal ≡ 0 → (b ≡ false) × (rest.refusal ≡ 0)
went b k rest h = passed (λ a. a.refusal) b (refused k) rest (λ z. omega arith)

pub plan-accepted : (s : List ℕ) → (read_plan s).refusal ≡ 0 → Accepted s (read_plan s)
unfolding read_plan head_answer arrays_answer
plan-accepted s q =
    let n = get_or (words s) 0 0 in
    let kind = get_or (words s) 1 0 in
    let limit = get_or (words s) 2 0 in
    let h = at (helpands_of s n) in
    let x = at (shares_of s n) in
    let a₁ = went (ltb (length s) 12) 11 _ (omega arith) q in
    let a₂ = went (not (one_to max_nodes n)) 12 _ (omega arith) a₁.1 in
    let a₃ = went (not (kind_fine n kind)) 13 _ (omega arith) a₂.1 in
    let a₄ = went (ltb max_limit limit) 14 _ (omega arith) a₃.1 in
    let a₅ = went (not (eqb (length s) (4 * (3 + 2 * n)))) 15 _ (omega arith) a₄.1 in
    let a₆ = went (not (helpands_below n h)) 16 _ (omega arith) a₅.1 in
    let a₇ = went (not (shape_fine n kind h)) 17 _ (omega arith) a₆.1 in
    let a₈ = went (not (shares_fine n limit h x)) 18 _ (omega arith) a₇.1 in
    let nf = not-false (one_to max_nodes n) a₂.0 in
    let nodes = one-to-is max_nodes n nf in
    let kf = not-false (kind_fine n kind) a₃.0 in
    let lim = ltb-false max_limit limit a₄.0 in
    let size = eqb-true (length s) (4 * (3 + 2 * n)) (not-false (eqb (length s) (4 * (3 + 2 * n))) a₅.0) in
    let below = not-false (helpands_below n h) a₆.0 in
    let shape = not-false (shape_fine n kind h) a₇.0 in
    let shares = not-false (shares_fine n limit h x) a₈.0 in
    let e : read_plan s ≡ accepted n kind limit =
    read_head s (ltb-false (length s) 12 a₁.0) refl refl refl
    ∙ head_fine s n kind limit nf kf lim size
    ∙ arrays_fine s n kind limit below shape shares in
    subst (λ (a : PlanAnswer). Accepted s a) (sym e)
    (record {
      answer = refl;
      n_is = refl;
      kind_is = refl;
      limit_is = refl;
      n_low = nodes.0;
      n_high = nodes.1;
      kind_high = kind_two n kind kf;
      alone = kind-alone n kind kf;
      limit_high = lim;
      size = size;
      below = below;
      shape = shape;
      shares = shares;
    })

-- the same of a reading
pub reading_accepted : (s : List ℕ) (p : Plan) → answer_of (Ok p) ≡ read_plan s → Accepted s (answer_of (Ok p))
reading_accepted s p e = rw e (plan-accepted s (ap (λ (a : PlanAnswer). a.refusal) (sym e)))

-- ---- and back: the facts are enough

pub accepted-read : (s : List ℕ) (a : PlanAnswer) → Accepted s a → read_plan s ≡ a
accepted-read s a k =
    read_head s (omega (arith, k.size)) k.n_is k.kind_is k.limit_is
    ∙ head_fine s a.n a.kind a.limit (one-to_of max_nodes a.n k.n_low k.n_high)
    (kind_fine_of a.n a.kind k.kind_high k.alone) k.limit_high k.size
    ∙ arrays_fine s a.n a.kind a.limit k.below k.shape k.shares
    ∙ sym k.answer

-- ---- lengths

module _ (s : List ℕ) (a : PlanAnswer) (k : Accepted s a) where
  pub words_are : length (words s) ≡ 3 + 2 * a.n
  words_are = length-words s ∙ rw k.size (omega arith)

  pub helpands_are : length (helpands_of s a.n) ≡ a.n
  helpands_are = length_part 3 a.n (words s) (omega (arith, words_are))
