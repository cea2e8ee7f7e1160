use borrow.Author.Rules.{rules}
use borrow.Author.Tests.{ltb-true}
use mathlib.Core.Path.{◌≡◌, sym, ap, ◌∙◌}
use mathlib.Core.List.{List}
use mathlib.Core.Bool.{false}
use Prim.Native.Nat.{ℕ, ◌-◌, ◌<◌}
use native.Mathlib.Omega.{arith}
use lib.Dec.{ltb}
use lib.ListN.{length, replicate}
use Rattle.fold.proofs.Tests.{all-at}
use Rattle.arrays.specs.Arrays.{at}
use Rattle.rebuild.specs.declared.Balance.{Balance}
use Rattle.rebuild.specs.Target.{targets_of}
use Rattle.rebuild.specs.Rebuild.{start_of, finish_of, rebuilt_of, next_l, next_g}
use Rattle.rebuild.proofs.Loops.{Served, reached-end, reached-some, reached_served, reached-turn, reached-less, start-sound}
use Rattle.rebuild.proofs.rebuild.Goals.{In-Some, In-Some-choose, Start}
use mathlib.Core.Bool.{true}
use Rattle.fold.specs.All.{all}
use Rattle.rebuild.proofs.rebuild.Goals.{in-Some+in_default-choose, in_default}
use Rattle.rebuild.proofs.rebuild.Goals as goal
use Rattle.std.specs.Prelude.{Some}

-- the old helpands are nodes
old_below : (n : ℕ) (old : List ℕ) → all n (λ j. ltb (at old j) n) ≡ true → (k : ℕ) → k < n → at old k < n
old_below n old h k b = ltb-true _ _ (all-at n (λ j. ltb (at old j) n) h k b)

-- the state where the loop begins
begun : (nodes p : ℕ) (totals targets : List ℕ) → targets ≡ targets_of nodes p
    → ◌≡◌ {A = Balance}
    (record { loads = totals; targets = targets; finished = replicate 64 false; helpands = replicate 64 0; shares = replicate 64 0 })
    (start_of nodes p totals)
unfolding start_of
begun nodes p totals targets e = rw e

pub loop-l-init : goal.loop-l-init
loop-l-init c =
    let a = c.args in
    let long : length a.totals ≡ 64 = search rules in
    let z : a.nodes - 0 ≡ a.nodes = omega arith in
    let e = begun a.nodes a.p a.totals c.targets-targets.result c.targets-targets.ensures in
    record {
      turns = 0;
      sound = rw e (start-sound a.nodes a.p a.totals c.requires.0 c.requires.1 long c.requires.3);
      rest = rw (z, e);
    }

l_fits : (c : In-Some) → c.in-Some.l < c.args.nodes
l_fits c = (rw c.in-Some.is at c.smallest_in_a.ensures.under).0

old-fits : (c : In-Some) → at c.args.old c.in-Some.l < c.args.nodes
old-fits c = old_below c.args.nodes c.args.old c.requires.2 c.in-Some.l (l_fits c)

pub overflow_cast-old : goal.overflow_cast-old
overflow_cast-old c = omega (arith, old-fits (goal.at.overflow_cast-old c).In-Some)

pub choose-requires : goal.choose-requires
choose-requires c = omega (arith, old-fits (goal.at.choose-requires c).In-Some)

-- ---- a turn

l_is : (c : In-Some-choose) → next_l c.args.nodes c.loop-l.s ≡ Some c.in-Some.l
l_is c = sym c.smallest_in_a.ensures.smallest ∙ c.in-Some.is

g_is : (c : In-Some-choose) → next_g c.args.nodes c.args.old c.loop-l.s c.in-Some.l ≡ Some c.in-Some-choose.g
g_is c = sym c.choose.ensures ∙ c.in-Some-choose.is

served : (c : In-Some-choose) → Served c.args.nodes c.loop-l.s c.in-Some.l c.in-Some-choose.g
served c =
    let a = c.args in
    reached_served a.nodes a.p c.requires.1 (at a.totals) a.old (old_below a.nodes a.old c.requires.2) _ _ c.loop-l.invariant _ _
    (l_is c) (g_is c)

pub turn-s-requires : goal.turn-s-requires
turn-s-requires c =
    let q = served (goal.at.turn-s-requires c).In-Some-choose in
    omega (arith, l_fits (goal.at.turn-s-requires c).In-Some, q.node, q.enough)

pub loop-l-smaller : goal.loop-l-smaller
loop-l-smaller c =
    let a = c.args in
    let t = (goal.at.loop-l-smaller c).In-Some-choose in
    rw c.turn-s.ensures
    (reached-less a.nodes a.p c.requires.1 (at a.totals) a.old (old_below a.nodes a.old c.requires.2) _ _ c.loop-l.invariant _ _
    (l_is t) (g_is t))

pub loop-l-preserved : goal.loop-l-preserved
loop-l-preserved c =
    let a = c.args in
    let t = (goal.at.loop-l-preserved c).In-Some-choose in
    rw c.turn-s.ensures
    (reached-turn a.nodes a.p c.requires.1 (at a.totals) a.old (old_below a.nodes a.old c.requires.2) _ _ c.loop-l.invariant _ _
    (l_is t) (g_is t))

-- ---- the end: no node is in A, or none is in B, which never is

pub returns : goal.returns
unfolding rebuilt_of
returns c =
    let a = c.args in
    let smallest = sym c.smallest_in_a.ensures.smallest in
    c.finish.ensures
    ∙ ap (finish_of a.nodes) (sym (elim c.match-smallest_in_a.branch [
      | in-Some+in_default-choose w ↦
          absurd (reached-some a.nodes a.p c.requires.1 (at a.totals) a.old (old_below a.nodes a.old c.requires.2) _ _
          c.loop-l.invariant _ (smallest ∙ w.in-Some.is) (sym w.choose.ensures ∙ w.in_default-choose.is))
      | in_default w ↦
          reached-end a.nodes a.p c.requires.1 (at a.totals) a.old (old_below a.nodes a.old c.requires.2) _ _
          c.loop-l.invariant (smallest ∙ w.in_default.is)
    ]))
