use borrow.Author.Rules.{rules}
use mathlib.Core.Path.{◌≡◌, sym, ap, ◌∙◌}
use mathlib.Core.Logic.{◌≢◌}
use mathlib.Core.Bool.{true, false}
use Prim.Native.Nat.{ℕ, ◌-◌, ◌≤◌}
use native.Mathlib.Omega.{arith}
use lib.Dec.{ltb}
use borrow.Author.Tests.{le-ltb}
use Rattle.fold.specs.Sum.{only}
use Rattle.fold.proofs.Tests.{only-max, only-not}
use Rattle.arrays.specs.Arrays.{at}
use Rattle.tree.specs.Family.{helps}
use Rattle.shares.specs.Inner.{helpand_in, rooms_now}
use Rattle.shares.proofs.Spaces.{family_own, family_helper, family_other}
use Rattle.shares.proofs.Families.{rooms-most}
use Rattle.shares.proofs.Summing.{summed_first, summed_next, summed_all, summed_most}
use Rattle.shares.proofs.kept.Family.above.Goals.{After-room-room, Start}
use Rattle.shares.proofs.kept.Family.above.Invariants.{one}
use Rattle.shares.proofs.kept.Family.above.Goals as goal

abbrev rooms : Start → ℕ → ℕ
rooms c = rooms_now c.args.self.now c.args.own c.args.noted.now

abbrev left : Start → ℕ → ℕ
left c k = let f = c.args.self.now in f.tree.now.limit - at f.reserves.now k - at c.args.noted.now k

-- ---- the owner, and who is no member

own_is : (c : Start) → c.args.own ≡ rooms c c.args.self.now.n
own_is c = let f = c.args.self.now in sym (family_own (helpand_in f) f.n c.args.own (left c))

none_other : (c : Start) → let f = c.args.self.now in (k : ℕ) → k ≢ f.n → helps (helpand_in f) f.n k ≡ false → rooms c k ≡ 0
none_other c = let f = c.args.self.now in family_other (helpand_in f) f.n c.args.own (left c)

pub loop-k-init : goal.loop-k-init
loop-k-init c =
    let own = own_is (goal.at.loop-k-init c).Start in (
      summed_first (c.over-particles.ensures.0 ∙ ap (λ (r : ℕ). r - c.args.level) own) (c.first-k.ensures c.args.self.now.inside),
      summed_first (c.one_above-members.ensures.0 ∙ ap (λ (r : ℕ). only (ltb c.args.level r) 1) own) (c.first-k.ensures c.args.self.now.inside),
    )

-- ---- a helper

helps-n : (c : After-room-room) → let f = c.args.self.now in helps (helpand_in f) f.n c.loop-k.k ≡ true
helps-n c = c.loop-k.invariant.0.helper c.loop-k-test.true

room-is : (c : After-room-room) → c.room-room.result ≡ rooms_now c.args.self.now c.args.own c.args.noted.now c.loop-k.k
room-is c =
    let f = c.args.self.now in
    c.room-room.ensures.0
    ∙ sym (family_helper (helpand_in f) f.n c.args.own (λ k. f.tree.now.limit - at f.reserves.now k - at c.args.noted.now k) c.loop-k.k
    (helps-n c))

-- no more than 64 rooms of 32 bits are added up
pub overflow_add-particles : goal.overflow_add-particles
overflow_add-particles c =
    let f = c.args.self.now in
    let most = rooms-most f c.args.own c.args.noted.now (search rules) in
    omega (
      arith,
      summed_most 4294967295 c.loop-k.invariant.0 (λ j. omega (arith, most j)),
      most f.n,
      f.tree.now.helpers.now.few,
      c.over-particles-in-loop-k.ensures.1,
    )

pub overflow_add-members : goal.overflow_add-members
overflow_add-members c =
    let f = c.args.self.now in
    let most : (j : ℕ) → one (rooms (goal.at.overflow_add-members c).Start) c.args.level j ≤ 1 =
    λ j. only-max (ltb c.args.level (rooms (goal.at.overflow_add-members c).Start j)) 1
    in
    omega (
      arith,
      summed_most 1 c.loop-k.invariant.1 most,
      most f.n,
      f.tree.now.helpers.now.few,
      c.one_above-members-in-loop-k.ensures.1,
    )

pub loop-k-preserved : goal.loop-k-preserved
loop-k-preserved c =
    let v = c.loop-k.invariant in
    let t = (goal.at.loop-k-preserved c).After-room-room in
    let room = room-is t in
    let next = c.next-k.ensures.next c.args.self.now.n c.loop-k-test.true (helps-n t) in (
      summed_next v.0 c.loop-k-test.true (c.over-particles-in-loop-k.ensures.0 ∙ ap (λ (y : ℕ). y - c.args.level) room) next,
      summed_next v.1 c.loop-k-test.true
          (c.one_above-members-in-loop-k.ensures.0 ∙ ap (λ (y : ℕ). only (ltb c.args.level y) 1) room) next,
    )

pub returns : goal.returns
returns c =
    let f = c.args.self.now in
    let v = c.loop-k.invariant in
    let none = none_other (goal.at.returns c).Start in (
      summed_all v.0 c.loop-k-test.false f.inside (λ j d y. omega (arith, none j d y)),
      summed_all v.1 c.loop-k-test.false f.inside (λ j d y. only-not _ 1 (le-ltb c.args.level _ (omega (arith, none j d y)))),
    )
