-- Laws of the definition `read_plan`, one for each way out of the checks, and one for the way through them. Assumes nothing.
use mathlib.Core.Path.{◌≡◌, sym, ap, ◌∙◌}
use mathlib.Core.Bool.{Bool, true, false, not}
use mathlib.Core.List.{List}
use Prim.Native.Nat.{ℕ, ◌+◌, ◌*◌, ◌≤◌, ◌<◌}
use borrow.Author.Tests.{lt-ltb, le-ltb, eq-eqb, ne_eqb}
use lib.Dec.{ltb}
use lib.ListN.{length, get_or}
use Rattle.limit.specs.Limit.{max_nodes, max_limit, one_to}
use Rattle.words.specs.Words.{words}
use Rattle.plan.specs.declared.PlanAnswer.{PlanAnswer}
use Rattle.plan.specs.Tree.{helpands_below, shape_fine, shares_fine}
use Rattle.plan.specs.Plan.{refused, accepted, helpands_of, shares_of, kind_fine, arrays_answer, head_answer, read_plan}
use Rattle.arrays.specs.Arrays.{at, padded}
use Rattle.arrays.proofs.Padded.{padded-same}
use Rattle.words.specs.Checks.{refuse_if}

refuses : (b : Bool) (k : ℕ) (rest : PlanAnswer) → b ≡ true → refuse_if b (refused k) rest ≡ refused k
refuses b k rest e = rw e

passes : (b : Bool) (k : ℕ) (rest : PlanAnswer) → b ≡ false → refuse_if b (refused k) rest ≡ rest
passes b k rest e = rw e

module _ (s : List ℕ) where
  pub read_short : length s < 12 → read_plan s ≡ refused 11
  unfolding read_plan
  read_short h = refuses (ltb (length s) 12) 11 _ (lt-ltb (length s) 12 h)

  pub read_head : {n kind limit : ℕ} → 12 ≤ length s → n ≡ get_or (words s) 0 0 → kind ≡ get_or (words s) 1 0 → limit ≡ get_or (words s) 2 0
      → read_plan s ≡ head_answer s n kind limit
  unfolding read_plan
  read_head h e f g = rw (e, f, g) (passes (ltb (length s) 12) 11 _ (le-ltb (length s) 12 h))

module _ (s : List ℕ) (n kind limit : ℕ) where
  pub head-nodes : one_to max_nodes n ≡ false → head_answer s n kind limit ≡ refused 12
  unfolding head_answer
  head-nodes e = refuses _ 12 _ (ap not e)

module _ (s : List ℕ) (n kind limit : ℕ) (nodes : one_to max_nodes n ≡ true) where
  pub head-kind : kind_fine n kind ≡ false → head_answer s n kind limit ≡ refused 13
  unfolding head_answer
  head-kind k = passes _ 12 _ (ap not nodes) ∙ refuses _ 13 _ (ap not k)

  pub head-limit : kind_fine n kind ≡ true → max_limit < limit → head_answer s n kind limit ≡ refused 14
  unfolding head_answer
  head-limit k h = passes _ 12 _ (ap not nodes) ∙ passes _ 13 _ (ap not k) ∙ refuses _ 14 _ (lt-ltb max_limit limit h)

  pub head-length : kind_fine n kind ≡ true → limit ≤ max_limit → (length s ≡ 4 * (3 + 2 * n) → ⊥) → head_answer s n kind limit ≡ refused 15
  unfolding head_answer
  head-length k h d =
      passes _ 12 _ (ap not nodes)
      ∙ passes _ 13 _ (ap not k)
      ∙ passes _ 14 _ (le-ltb max_limit limit h)
      ∙ refuses _ 15 _ (ap not (ne_eqb (length s) (4 * (3 + 2 * n)) d))

  pub head_fine : kind_fine n kind ≡ true → limit ≤ max_limit → length s ≡ 4 * (3 + 2 * n)
      → head_answer s n kind limit ≡ arrays_answer s n kind limit
  unfolding head_answer
  head_fine k h e =
      passes _ 12 _ (ap not nodes)
      ∙ passes _ 13 _ (ap not k)
      ∙ passes _ 14 _ (le-ltb max_limit limit h)
      ∙ passes _ 15 _ (ap not (eq-eqb (length s) (4 * (3 + 2 * n)) e))

-- ---- the arrays

-- the checks of two arrays
abbrev pub arrays_checked : ℕ → ℕ → ℕ → (ℕ → ℕ) → (ℕ → ℕ) → PlanAnswer
arrays_checked n kind limit h x =
    refuse_if (not (helpands_below n h)) (refused 16)
    (refuse_if (not (shape_fine n kind h)) (refused 17)
    (refuse_if (not (shares_fine n limit h x)) (refused 18)
    (accepted n kind limit)))

-- an array that was read of a list of words holds its words
held : (ws : List ℕ) {xs : List ℕ} → xs ≡ padded ws → at ws ≡ at xs
held ws e = sym (ap at e ∙ padded-same ws)

module _ (s : List ℕ) (n kind limit : ℕ) {xs : List ℕ} (e : xs ≡ padded (helpands_of s n)) where
  pub helpands-read : arrays_answer s n kind limit ≡ arrays_checked n kind limit (at xs) (at (shares_of s n))
  unfolding arrays_answer
  helpands-read = ap (λ (h : ℕ → ℕ). arrays_checked n kind limit h (at (shares_of s n))) (held (helpands_of s n) e)

  pub arrays-read : {ys : List ℕ} → ys ≡ padded (shares_of s n) → arrays_answer s n kind limit ≡ arrays_checked n kind limit (at xs) (at ys)
  arrays-read f = helpands-read ∙ ap (arrays_checked n kind limit (at xs)) (held (shares_of s n) f)

module _ (s : List ℕ) (n kind limit : ℕ) where
  pub arrays_helpand : helpands_below n (at (helpands_of s n)) ≡ false → arrays_answer s n kind limit ≡ refused 16
  unfolding arrays_answer
  arrays_helpand b = refuses _ 16 _ (ap not b)

  pub arrays_shape : helpands_below n (at (helpands_of s n)) ≡ true → shape_fine n kind (at (helpands_of s n)) ≡ false
      → arrays_answer s n kind limit ≡ refused 17
  unfolding arrays_answer
  arrays_shape b h = passes _ 16 _ (ap not b) ∙ refuses _ 17 _ (ap not h)

module _ (s : List ℕ) (n kind limit : ℕ)
    (below : helpands_below n (at (helpands_of s n)) ≡ true)
    (shape : shape_fine n kind (at (helpands_of s n)) ≡ true) where
  pub arrays_share : shares_fine n limit (at (helpands_of s n)) (at (shares_of s n)) ≡ false → arrays_answer s n kind limit ≡ refused 18
  unfolding arrays_answer
  arrays_share f = passes _ 16 _ (ap not below) ∙ passes _ 17 _ (ap not shape) ∙ refuses _ 18 _ (ap not f)

  pub arrays_fine : shares_fine n limit (at (helpands_of s n)) (at (shares_of s n)) ≡ true
      → arrays_answer s n kind limit ≡ accepted n kind limit
  unfolding arrays_answer
  arrays_fine f = passes _ 16 _ (ap not below) ∙ passes _ 17 _ (ap not shape) ∙ passes _ 18 _ (ap not f)
