use native.Mathlib.Numerals.{add-one}
use native.Mathlib.Omega.{arith}
use Prim.Native.Nat.{ℕ, ◌+◌, ◌<◌}
use Rattle.std.proofs.lemmas.List.Edits.{get_or-between, length-between}
use Rattle.fold.specs.All.{all}
use Rattle.tally.proofs.holds.Goals as goal

pub loop-least-init : goal.loop-least-init
unfolding all
loop-least-init c = search

pub loop-least-preserved : goal.loop-least-preserved
unfolding all
loop-least-preserved c =
    let k = c.loop-least.least-index in
    let inside : 64 + k < 64 + c.args.nodes = omega (arith, length-between {X = ℕ}) in
    rw add-one (cc (get_or-between c.args.cells.now 64 (64 + c.args.nodes) k 0 inside))
