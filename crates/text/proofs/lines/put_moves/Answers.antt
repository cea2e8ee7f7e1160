use mathlib.Core.Path.{◌≡◌}
use Prim.Native.Nat.{ℕ, ◌<◌}
use native.Mathlib.Omega.{arith}
use lib.ListN.{length, get_or, length-append}
use Rattle.std.proofs.lemmas.Slice.Zip.{zip_turn, zip_end}
use Rattle.fold.proofs.Lists.{collect-none, collect_more}
use Rattle.text.proofs.Lengths.{moves-le}
use Rattle.text.proofs.Writing.{wrote_none, wrote_then}
use Rattle.text.proofs.lines.put_moves.Goals.{In-Some}
use Rattle.text.proofs.lines.put_moves.Goals as goal

-- a turn takes the next route and its count
turn : (c : In-Some) →
    let a = c.args in
    let i = length c.loop-route.yielded in
    (i < length a.routes.now) × (i < length a.counts.now) × ((d : ℕ) → c.in-Some.route.now ≡ get_or a.routes.now i d)
    × ((d : ℕ) → c.in-Some.count.now ≡ get_or a.counts.now i d)
turn c =
    let l = c.loop-route in
    zip_turn c.args.routes.now c.args.counts.now l.yielded c.into_iter-route-iterator.result l.route-iterator c.next.new.self
    c.next.result (cc) (cc) l.yielded_by (c.in-Some.route, c.in-Some.count) c.in-Some.is c.next.ensures.steps

pub loop-route-init : goal.loop-route-init
loop-route-init c = rw collect-none (wrote_none c.args.w.now)

pub put_move-requires : goal.put_move-requires
put_move-requires c =
    let a = c.args in
    let t = turn (goal.at.put_move-requires c).In-Some in
    omega (arith, t.0, moves-le (length c.loop-route.yielded) a.routes.now a.counts.now)

pub loop-route-preserved : goal.loop-route-preserved
loop-route-preserved c =
    let t = turn (goal.at.loop-route-preserved c).In-Some in
    let put = rw (t.2 0, t.3 0) at (wrote_then c.loop-route.invariant c.put_move.ensures) in
    rw (length-append, collect_more) put

pub returns : goal.returns
returns c =
    let a = c.args in
    let l = c.loop-route in
    let end = zip_end a.routes.now a.counts.now l.yielded c.into_iter-route-iterator.result l.route-iterator c.next.new.self
    c.next.result (cc) (cc) l.yielded_by c.in-None.is c.next.ensures.steps in
    let e : length l.yielded ≡ length a.routes.now = omega arith in
    rw e at l.invariant
