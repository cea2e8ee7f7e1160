-- `tally::renew::renew_from` meets its contract: what is still to be renewed from the loop's head is what was to be renewed at first.
-- Assumes nothing.
use mathlib.Core.Path.{◌≡◌}
use Prim.Native.Nat.{suc, ◌-◌, ◌<◌}
use Rattle.arrays.specs.Arrays.{at}
use Rattle.tally.specs.Renew.{renewed}
use Rattle.tally.proofs.renew.renew_from.Given as goal

abbrev pub invariant-loop : goal.invariant-loop
invariant-loop l =
    let h = l.helpers in
    (l.n < h.nodes)
    × (renewed h.nodes (at h.helpands.now) l.limit (suc (h.nodes - l.counter)) l.n l.cells
    ≡ renewed h.nodes (at h.helpands.now) l.limit (suc h.nodes) l.first l.initial.cells)
