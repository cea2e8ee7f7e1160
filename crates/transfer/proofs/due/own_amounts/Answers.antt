use borrow.Author.Rules.{rules}
use mathlib.Core.Path.{◌≡◌, refl, ap, ◌∙◌}
use mathlib.Core.Logic.{◌≢◌}
use Prim.Native.Nat.{ℕ, ◌+◌, ◌≤◌, ◌<◌}
use native.Mathlib.Omega.{arith}
use lib.ListN.{length, get_or, length-set}
use Rattle.arrays.specs.Arrays.{at}
use Rattle.fold.specs.Sum.{only}
use Rattle.fold.proofs.Sums.{sum-none}
use Rattle.tree.specs.Family.{helps, over_helpers}
use Rattle.tree.specs.Division.{own_of}
use Rattle.transfer.proofs.Dues.{helpers_root, helpers_up, off}
use Rattle.arrays.proofs.Tabulate.{tabulate-is}
use Rattle.transfer.proofs.due.own_amounts.Goals.{In-loop-k, else-owner-k, then-owner-k}
use Rattle.transfer.proofs.due.own_amounts.Goals as goal

pub loop-k-init : goal.loop-k-init
loop-k-init c = record {
  size = search rules;
  left = λ n. omega (arith, sum-none (λ j. only (helps (at c.args.helpands) n j) (at c.args.shares j)));
}

-- a helpand is a node
inside : (c : In-loop-k) → get_or c.args.helpands c.loop-k.k 0 < 64
inside c =
    let a = c.args in
    omega (arith, c.requires.1.inside c.loop-k.k c.loop-k-test.true, c.requires.0)

-- what is left for the owner is not less than one more share
room : (c : In-loop-k) →
    let a = c.args in
    get_or a.helpands c.loop-k.k 0 ≢ c.loop-k.k
    → get_or a.shares c.loop-k.k 0 ≤ get_or c.loop-k.own (get_or a.helpands c.loop-k.k 0) 0
room c other =
    let a = c.args in
    let g = at a.helpands c.loop-k.k in
    let p = c.requires in
    omega (
      arith,
      c.loop-k.invariant.left g,
      p.1.enough g (p.1.inside c.loop-k.k c.loop-k-test.true),
      helpers_up (at a.helpands) (at a.shares) c.loop-k.k g a.nodes refl other c.loop-k-test.true,
    )

pub loop-k-preserved : goal.loop-k-preserved
loop-k-preserved c =
    let a = c.args in
    let k = c.loop-k.k in
    let h = at a.helpands in
    let share = at a.shares in
    let own = c.loop-k.own in
    elim c.if-owner-k.branch [
      | then-owner-k w ↦
          let here = (goal.at.loop-k-preserved c).In-loop-k in
          let other = w.if-owner-k.true in
          let long : h k < length own = omega (arith, inside here, c.loop-k.invariant.size) in
          rw w.own-is (record {
            size = simp length-set c.loop-k.invariant.size;
            left = λ n. off h share k own (h k) refl other long (room here other) n ∙ c.loop-k.invariant.left n;
          })
      | else-owner-k w ↦ rw w.own-is (record {
        size = c.loop-k.invariant.size;
        left = λ n. ap (λ (x : ℕ). at own n + x) (helpers_root h share k w.if-owner-k.false n) ∙ c.loop-k.invariant.left n;
      })
    ]

pub returns : goal.returns
returns c =
    let a = c.args in
    let h = at a.helpands in
    let share = at a.shares in
    let e : c.loop-k.k ≡ a.nodes = omega arith in
    let all : (n : ℕ) → at c.loop-k.own n + over_helpers a.nodes h n share ≡ at a.totals n = rw e at c.loop-k.invariant.left in
    tabulate-is a.nodes (own_of a.nodes h (at a.totals) share) c.requires.0 c.loop-k.own c.loop-k.invariant.size
    (λ n b. omega (arith, all n))
    (λ n b. omega (arith, all n, c.requires.2 n b))

pub overflow_sub-own : goal.overflow_sub-own
overflow_sub-own c = room (goal.at.overflow_sub-own c).In-loop-k c.if-owner-k.true
