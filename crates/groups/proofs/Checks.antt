-- One law for each way out of *groups*: the answer, and the buffer as it is then. Assumes nothing.
use mathlib.Core.Path.{◌≡◌, ap, ◌∙◌}
use mathlib.Core.Logic.{◌≢◌}
use mathlib.Core.List.{List}
use Prim.Native.Nat.{ℕ, ◌≤◌, ◌<◌}
use native.Mathlib.Omega.{arith}
use borrow.Author.Tests.{lt-ltb, le-ltb, ne_eqb}
use lib.ListN.{length}
use Rattle.arrays.specs.Arrays.{at}
use Rattle.words.specs.Buffer.{placed}
use Rattle.words.specs.Answer.{refused, accepted}
use Rattle.words.specs.declared.WrittenAnswer.{WrittenAnswer}
use Rattle.words.proofs.Writing.{Ends, ends_refused}
use Rattle.plan.specs.declared.Plan.{Plan}
use Rattle.plan.specs.declared.PlanAnswer.{PlanAnswer}
use Rattle.plan.specs.Plan.{read_plan, helpands_of, accepted as plan_accepted}
use Rattle.plan.specs.Kinds.{kind_number}
use Rattle.groups.specs.Groups.{groups_bytes, groups_size, groups_of, groups_answer, groups_after}

module _ (p out : List ℕ) where
  abbrev pub GroupsEnd : WrittenAnswer → List ℕ → Type 0
  GroupsEnd a out₁ = Ends (groups_answer p (length out)) (groups_of p) out a out₁

  refuses : (k : ℕ) → k ≢ 0 → refused k ≡ groups_answer p (length out) → GroupsEnd (refused k) out
  refuses = ends_refused (groups_answer p (length out)) (groups_of p) out

  pub ends_plan : (k : ℕ) → k ≡ (read_plan p).refusal → k ≢ 0 → GroupsEnd (refused k) out
  unfolding groups_answer
  ends_plan k e d = refuses k d (rw (← e, ne_eqb k 0 d))

  -- the plan was read
  module _ (q : Plan) (read : plan_accepted q.n (kind_number q.kind) q.limit ≡ read_plan p) where
    pub ends_buffer : length out < groups_size q.n → GroupsEnd (refused 57) out
    unfolding groups_answer
    ends_buffer short = refuses 57 (λ z. omega arith) (rw (← read, lt-ltb (length out) (groups_size q.n) short))

    pub ends_grouped : groups_size q.n ≤ length out → {out₁ : List ℕ} → out₁ ≡ placed (groups_bytes q.n (at (helpands_of p q.n))) out
        → GroupsEnd (accepted (groups_size q.n)) out₁
    unfolding groups_answer groups_of
    ends_grouped fits is =
        let a : accepted (groups_size q.n) ≡ groups_answer p (length out) = rw (← read, le-ltb (length out) (groups_size q.n) fits) in
        (a, is ∙ rw (← a) (ap (λ (x : PlanAnswer). placed (groups_bytes x.n (at (helpands_of p x.n))) out) read))

-- the buffer after the groups of a plan were written
pub grouped : (p out : List ℕ) {n kind limit : ℕ} → plan_accepted n kind limit ≡ read_plan p → groups_size n ≤ length out
    → placed (groups_bytes n (at (helpands_of p n))) out ≡ groups_after p out
unfolding groups_answer groups_of
grouped p out {n} read fits = rw (← read, le-ltb (length out) (groups_size n) fits)
