-- `transfer::matching::all_moves` meets its contract: there are no more moves than N × (N−1), so both buffers have room. Assumes nothing.
use mathlib.Core.Path.{◌≡◌, refl, sym, ap, ◌∙◌}
use Prim.Native.Nat.{ℕ, ◌-◌, ◌*◌, ◌≤◌}
use native.Mathlib.Omega.{arith}
use lib.ListN.{length}
use Rattle.arrays.specs.Arrays.{at}
use Rattle.transfer.specs.Due.{due_of}
use Rattle.transfer.specs.List.{routes_in, counts_in}
use Rattle.transfer.proofs.Subdomains.{few-all, lengths}
use Rattle.transfer.proofs.matching.all_moves.Goals.{After-list_moves}
use Rattle.transfer.proofs.matching.all_moves.Goals as goal

pub list_moves-requires : goal.list_moves-requires
list_moves-requires c =
    let p = c.requires in
    let none = c.new-moves.ensures in
    (p.0, p.1, p.2, none.0, none.1)

few : (c : After-list_moves) →
    let a = c.args in
    let m = c.list_moves.new.moves in
    (length (routes_in m) ≤ a.nodes * (a.nodes - 1)) × (length (counts_in m) ≤ a.nodes * (a.nodes - 1))
few c =
    let a = c.args in
    let m = c.list_moves.ensures in
    let due : ℕ → ℕ → ℕ = due_of a.nodes (at a.helpands) (at a.totals) (at a.shares) in
    let all = few-all a.nodes a.table.now due a.nodes in
    (omega (arith, all, ap length m.routes), omega (arith, all, lengths a.nodes a.table.now due a.nodes, ap length m.counts))

pub put_front-requires : goal.put_front-requires
put_front-requires c =
    let f = few (goal.at.put_front-requires c).After-list_moves in
    omega (arith, f.0, c.requires.3, ap length c.routes.ensures.routes)

pub put_front-requires-2 : goal.put_front-requires-2
put_front-requires-2 c =
    let f = few (goal.at.put_front-requires-2 c).After-list_moves in
    omega (arith, f.1, c.requires.4, ap length c.counts.ensures.counts)
