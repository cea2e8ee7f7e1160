-- A plan that is longer than every plan is refused by its first three words, whatever follows. Assumes nothing.
use mathlib.Core.Path.{◌≡◌, sym, ◌∙◌}
use mathlib.Core.Logic.{◌≢◌, ◌⊎◌, inl, inr}
use mathlib.Core.Bool.{Bool, true, false, not}
use mathlib.Core.List.{List, ◌++◌}
use Prim.Native.Nat.{ℕ, ◌+◌, ◌*◌, ◌<◌}
use native.Mathlib.Omega.{arith}
use borrow.Author.Tests.{le-ltb, ne_eqb}
use lib.Dec.{ltb}
use lib.ListN.{length, get_or, length-append}
use Rattle.fold.proofs.Tests.{either}
use Rattle.limit.specs.Limit.{max_nodes, max_limit, one_to}
use Rattle.limit.proofs.Laws.{one-to-is}
use Rattle.words.specs.Words.{words}
use Rattle.words.specs.Checks.{refuse_if}
use Rattle.words.proofs.Words.{word-front}
use Rattle.plan.specs.declared.PlanAnswer.{PlanAnswer}
use Rattle.plan.specs.Plan.{refused, kind_fine, head_answer, read_plan}
use Rattle.plan.specs.Write.{plan_length}

-- its answer, by its first three words
longer : ℕ → ℕ → ℕ → PlanAnswer
longer n kind limit =
    refuse_if (not (one_to max_nodes n)) (refused 12)
    (refuse_if (not (kind_fine n kind)) (refused 13)
    (refuse_if (ltb max_limit limit) (refused 14)
    (refused 15)))

-- no such plan has the length that its N asks for
longer_head : (o : List ℕ) (n kind limit : ℕ) → plan_length max_nodes < length o
    → (one_to max_nodes n ≡ true) ⊎ (one_to max_nodes n ≡ false) → head_answer o n kind limit ≡ longer n kind limit
unfolding head_answer longer
longer_head o n kind limit l (inl e) = rw (e, ne_eqb (length o) (4 * (3 + 2 * n)) (λ z. omega (arith, (one-to-is max_nodes n e).1)))
longer_head o n kind limit l (inr e) = rw e

longer_read : (o : List ℕ) → plan_length max_nodes < length o
    → read_plan o ≡ longer (get_or (words o) 0 0) (get_or (words o) 1 0) (get_or (words o) 2 0)
unfolding read_plan
longer_read o l =
    rw (le-ltb (length o) 12 (omega arith)) (longer_head o (get_or (words o) 0 0) (get_or (words o) 1 0) (get_or (words o) 2 0) l (either _))

longer_some : (n kind limit : ℕ) → (longer n kind limit).refusal ≢ 0
unfolding longer
longer_some n kind limit = some (not (one_to max_nodes n)) (not (kind_fine n kind)) (ltb max_limit limit)
  where
    some : (b c d : Bool) → (refuse_if b (refused 12) (refuse_if c (refused 13) (refuse_if d (refused 14) (refused 15)))).refusal ≢ 0
    some true c d z = omega arith
    some false true d z = omega arith
    some false false true z = omega arith
    some false false false z = omega arith

module _ (o : List ℕ) (l : plan_length max_nodes < length o) where
  pub longer_refused : (read_plan o).refusal ≢ 0
  longer_refused = rw (longer_read o l) (longer_some (get_or (words o) 0 0) (get_or (words o) 1 0) (get_or (words o) 2 0))

  pub longer_front : (r : List ℕ) → read_plan (o ++ r) ≡ read_plan o
  longer_front r =
      longer_read (o ++ r) (omega (arith, length-append o r))
      ∙ rw (word-front o r 0 (omega arith), word-front o r 1 (omega arith), word-front o r 2 (omega arith)) (sym (longer_read o l))
