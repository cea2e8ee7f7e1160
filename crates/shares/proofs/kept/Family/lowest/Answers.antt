use mathlib.Core.Path.{◌≡◌}
use mathlib.Core.Logic.{inr}
use borrow.Author.Rules.{rules}
use Prim.Native.Nat.{ℕ, ◌+◌, ◌-◌, ◌/◌, ◌≤◌, ◌<◌}
use native.Mathlib.Omega.{arith}
use Rattle.shares.specs.Inner.{nodes_in, rooms_now}
use Rattle.shares.proofs.Families.{rooms-most}
use Rattle.shares.proofs.Raising.{start-lowest, Counted, turn-some, turn-lowest, turn-most, turn_fewer}
use Rattle.shares.proofs.kept.Family.lowest.Goals.{After-above-high, After-rise, Start}
use Rattle.shares.proofs.kept.Family.lowest.Goals as goal

bound : (c : Start) → (k : ℕ) → k < nodes_in c.args.self.now → rooms_now c.args.self.now c.args.own c.args.noted.now k ≤ 4294967295
bound c k l = rooms-most c.args.self.now c.args.own c.args.noted.now (search rules) k

counted : (c : After-above-high) →
    let a = c.args in
    Counted (nodes_in a.self.now) (rooms_now a.self.now a.own a.noted.now) c.loop-high.level c.above-high.result.particles
    c.above-high.result.members
counted c = record { particles_are = c.above-high.ensures.0; members_are = c.above-high.ensures.1 }

pub loop-high-init : goal.loop-high-init
loop-high-init c = rw c.saturating_sub-level.ensures (start-lowest c.args.rest c.requires)

-- ---- the rest reaches the level
-- ---- it does not

above_rest : (c : After-above-high) → c.from-wide.result < c.above-high.result.particles → c.args.rest < c.above-high.result.particles
above_rest c l = omega (arith, c.from-wide.ensures)

pub rise-requires : goal.rise-requires
rise-requires c =
    let t = (goal.at.rise-requires c).After-above-high in
    (omega (arith, c.if-high-wide.false), turn-some (bound (goal.at.rise-requires c).Start) (counted t) (above_rest t c.if-high-wide.false))

risen : (c : After-rise) →
    let high = c.above-high.result in
    c.rise.result ≡ (high.particles - c.args.rest - 1) / high.members + 1
risen c = rw c.from-wide.ensures at c.rise.ensures

pub overflow_cast-level : goal.overflow_cast-level
overflow_cast-level c =
    let at = goal.at.overflow_cast-level c in
    let t = at.After-above-high in
    omega (arith, turn-most (bound at.Start) (counted t) (above_rest t c.if-high-wide.false) (risen at.After-rise))

pub overflow_add-level : goal.overflow_add-level
overflow_add-level c =
    let at = goal.at.overflow_add-level c in
    let t = at.After-above-high in
    omega (arith, turn-most (bound at.Start) (counted t) (above_rest t c.if-high-wide.false) (risen at.After-rise))

pub loop-high-smaller : goal.loop-high-smaller
loop-high-smaller c =
    let at = goal.at.loop-high-smaller c in
    let t = at.After-above-high in
    turn_fewer (bound at.Start) (counted t) (above_rest t c.if-high-wide.false) (risen at.After-rise)

pub loop-high-preserved : goal.loop-high-preserved
loop-high-preserved c =
    let at = goal.at.loop-high-preserved c in
    let t = at.After-above-high in
    inr (turn-lowest (bound at.Start) (counted t) (above_rest t c.if-high-wide.false) (risen at.After-rise))
