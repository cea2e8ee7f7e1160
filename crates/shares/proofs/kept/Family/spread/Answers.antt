use borrow.Author.Rules.{rules}
use mathlib.Core.Path.{◌≡◌, refl, sym, ap, ap₂, ◌∙◌}
use mathlib.Core.Bool.{true}
use Prim.Native.Nat.{ℕ, ◌+◌, ◌-◌}
use native.Mathlib.Omega.{arith}
use lib.Dec.{ltb}
use Rattle.fold.specs.Sum.{only, sum}
use Rattle.arrays.specs.Arrays.{at}
use Rattle.tree.specs.Family.{helps}
use Rattle.shares.specs.Inner.{helpand_in, rooms_now, unit}
use Rattle.shares.proofs.LevelForm.{gets-turn}
use Rattle.shares.proofs.Spaces.{family_own, family_helper, family_other}
use Rattle.shares.proofs.Summing.{left_below}
use Rattle.shares.proofs.Noting.{so_far-none, so_far_more, so_far_before}
use Rattle.shares.proofs.kept.Family.spread.Goals.{After-min-extra, Start}
use Rattle.shares.proofs.kept.Family.spread.Goals as goal

abbrev rooms : Start → ℕ → ℕ
rooms c = rooms_now c.args.self.now c.args.own c.args.shares.now

pub loop-k-init : goal.loop-k-init
loop-k-init c = so_far-none (search rules) refl (c.first-k.ensures c.args.self.now.inside)

helps-n : (c : After-min-extra) → let f = c.args.self.now in helps (helpand_in f) f.n c.loop-k.k ≡ true
helps-n c = c.loop-k.invariant.taken.helper c.loop-k-test.true

amount-is : (c : After-min-extra) → at c.loop-k.shares c.loop-k.k ≡ at c.args.shares.now c.loop-k.k
amount-is c = so_far_before c.loop-k.invariant

room-is : (c : After-min-extra) → c.room-room.result ≡ rooms_now c.args.self.now c.args.own c.args.shares.now c.loop-k.k
room-is c =
    let f = c.args.self.now in
    let k = c.loop-k.k in
    c.room-room.ensures.0
    ∙ ap (λ (x : ℕ). f.tree.now.limit - at f.reserves.now k - x) (amount-is c)
    ∙ sym (family_helper (helpand_in f) f.n c.args.own (λ j. f.tree.now.limit - at f.reserves.now j - at c.args.shares.now j) k (helps-n c))

one-is : (c : After-min-extra) →
    let a = c.args in
    c.unit-one.result ≡ unit (rooms_now a.self.now a.own a.shares.now) a.reached.level c.loop-k.k
one-is c = c.unit-one.ensures ∙ ap (λ (x : ℕ). x - (c.args.reached.level - 1) - (x - c.args.reached.level)) (room-is c)

-- what is left for helper k: nobody else reaches a level above 0
left_is : (c : After-min-extra) →
    let a = c.args in
    c.left_for.result ≡ a.reached.left - sum c.loop-k.k (unit (rooms_now a.self.now a.own a.shares.now) a.reached.level)
left_is c =
    let a = c.args in
    let f = a.self.now in
    let level = a.reached.level in
    let h = helpand_in f in
    let room = λ (k : ℕ). f.tree.now.limit - at f.reserves.now k - at a.shares.now k in
    let rooms = rooms_now f a.own a.shares.now in
    let owner-is : c.unit-owner.result ≡ unit rooms level f.n =
    c.unit-owner.ensures ∙ ap (λ (x : ℕ). x - (level - 1) - (x - level)) (sym (family_own h f.n a.own room))
    in
    left_below h f.n (unit rooms level) (λ j d y. omega (arith, family_other h f.n a.own room j d y)) a.reached.left c.loop-k.k
    c.loop-k.invariant.taken.left_is
    (c.left_for.ensures ∙ ap (λ (x : ℕ). c.loop-k.some - only (ltb f.n c.loop-k.k) x) owner-is)

pub loop-k-preserved : goal.loop-k-preserved
loop-k-preserved c =
    let t = (goal.at.loop-k-preserved c).After-min-extra in
    let f = c.args.self.now in
    let level = c.args.reached.level in
    so_far_more c.loop-k.invariant f.tree.now.helpers.now.few c.loop-k-test.true
    (c.raised.ensures
    ∙ ap₂ (λ (x y : ℕ). x + (y - level + c.min-extra.result)) (amount-is t) (room-is t)
    ∙ ap (λ (x : ℕ). at c.args.shares.now c.loop-k.k + x)
    (gets-turn (rooms (goal.at.loop-k-preserved c).Start) level c.args.reached.left c.loop-k.k (left_is t) (one-is t) c.min-extra.ensures))
    (c.saturating_sub-some.ensures ∙ ap (λ (x : ℕ). c.loop-k.some - x) (one-is t))
    (c.next-k.ensures.next f.n c.loop-k-test.true (helps-n t))
