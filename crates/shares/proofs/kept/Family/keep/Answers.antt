use borrow.Author.Rules.{rules}
use mathlib.Core.Path.{◌≡◌, ap, ◌∙◌}
use mathlib.Core.Bool.{true}
use mathlib.Core.List.{List}
use Prim.Native.Nat.{ℕ, ◌-◌}
use native.Mathlib.Omega.{arith}
use Rattle.fold.proofs.Sums.{sum_term}
use Rattle.arrays.specs.Arrays.{at}
use Rattle.arrays.proofs.Tabulate.{tabulate-at}
use Rattle.sheet.specs.Totals.{total_of}
use Rattle.tree.specs.Family.{helps}
use Rattle.tree.proofs.Linking.{left-all}
use Rattle.shares.specs.Inner.{nodes_in, helpand_in, holding_in, keeps_in}
use Rattle.shares.specs.declared.kept.Family.{Family}
use Rattle.shares.proofs.Spaces.{space-own, space-helper}
use Rattle.shares.proofs.Amounts.{kept-sum, kept-left}
use Rattle.shares.proofs.Raising.{somewhere_larger}
use Rattle.shares.proofs.Noting.{so_far-none, so_far_more, so_far-all}
use Rattle.shares.proofs.kept.Family.keep.Goals.{After-keeps-amount, After-keeps-own}
use Rattle.shares.proofs.kept.Family.keep.Goals as goal

-- ---- the owner

-- the total is the table's
total_is : (f : Family) → at f.tree.now.totals.now f.n ≡ total_of (nodes_in f) f.tree.now.table.now f.n
total_is f =
    ap (λ (xs : List ℕ). at xs f.n) f.tree.now.counted ∙ tabulate-at (nodes_in f) (total_of (nodes_in f) f.tree.now.table.now) f.n f.inside

own_keeps : (c : After-keeps-own) → let f = c.args.self.now in c.keeps-own.result ≡ keeps_in f f.n
own_keeps c =
    let f = c.args.self.now in
    omega (arith, c.keeps-own.ensures, space-own (helpand_in f) f.tree.now.limit (at f.reserves.now) f.share f.n)

pub overflow_sub-rest : goal.overflow_sub-rest
overflow_sub-rest c =
    let f = c.args.self.now in
    omega (
      arith,
      own_keeps (goal.at.overflow_sub-rest c).After-keeps-own,
      total_is f,
      sum_term (nodes_in f) (holding_in f) f.n f.inside,
    )

pub loop-k-init : goal.loop-k-init
loop-k-init c =
    let f = c.args.self.now in
    let own = own_keeps (goal.at.loop-k-init c).After-keeps-own in (
      so_far-none (search rules) (ap (λ (x : ℕ). at f.tree.now.totals.now f.n - x) own) (c.first-k.ensures f.inside),
      record {
        node = f.n;
        inside = f.inside;
        there =
            omega (arith, c.room-most.ensures.0, own, space-own (helpand_in f) f.tree.now.limit (at f.reserves.now) f.share f.n);
      },
    )

-- ---- a helper

helps-n : (c : After-keeps-amount) → let f = c.args.self.now in helps (helpand_in f) f.n c.loop-k.k ≡ true
helps-n c = c.loop-k.invariant.0.taken.helper c.loop-k-test.true

keeps-is : (c : After-keeps-amount) → c.keeps-amount.result ≡ keeps_in c.args.self.now c.loop-k.k
keeps-is c =
    let f = c.args.self.now in
    omega (
      arith,
      c.keeps-amount.ensures,
      space-helper (helpand_in f) f.tree.now.limit (at f.reserves.now) f.share f.n c.loop-k.k (helps-n c),
    )

pub overflow_sub-rest-in-loop-k : goal.overflow_sub-rest-in-loop-k
overflow_sub-rest-in-loop-k c =
    let f = c.args.self.now in
    let t = (goal.at.overflow_sub-rest-in-loop-k c).After-keeps-amount in
    omega (
      arith,
      keeps-is t,
      total_is f,
      c.loop-k.invariant.0.taken.left_is,
      kept-left (helpand_in f) f.tree.now.limit (at f.reserves.now) (holding_in f) f.share f.n (nodes_in f) c.loop-k.k f.inside
          c.loop-k-test.true (helps-n t),
    )

pub loop-k-preserved : goal.loop-k-preserved
loop-k-preserved c =
    let f = c.args.self.now in
    let v = c.loop-k.invariant in
    let t = (goal.at.loop-k-preserved c).After-keeps-amount in
    let space = space-helper (helpand_in f) f.tree.now.limit (at f.reserves.now) f.share f.n c.loop-k.k (helps-n t) in (
      so_far_more v.0 f.tree.now.helpers.now.few c.loop-k-test.true (keeps-is t) (ap (λ (x : ℕ). c.loop-k.rest - x) (keeps-is t))
          (c.next-k.ensures.next f.n c.loop-k-test.true (helps-n t)),
      rw c.max-most.ensures (somewhere_larger v.1 c.loop-k-test.true (omega (arith, c.room.ensures.0, keeps-is t, space))),
    )

pub returns : goal.returns
returns c =
    let f = c.args.self.now in
    let v = c.loop-k.invariant in (
      own_keeps (goal.at.returns c).After-keeps-own,
      omega (
        arith,
        (left-all v.0.taken c.loop-k-test.false).1,
        kept-sum (helpand_in f) f.tree.now.limit (at f.reserves.now) (holding_in f) f.share f.n (nodes_in f) f.inside,
      ),
      v.1,
      (so_far-all v.0 c.loop-k-test.false).1,
    )
