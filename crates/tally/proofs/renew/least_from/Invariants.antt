-- `tally::renew::least_from` meets its contract: at the loop's head the helpers passed have taken what they can spare. Assumes nothing.
use Prim.Native.Nat.{◌-◌}
use Rattle.arrays.specs.Arrays.{at}
use Rattle.tree.proofs.Linking.{Left}
use Rattle.tally.specs.Layout.{total_at, least_at}
use Rattle.tally.proofs.renew.least_from.Given as goal

abbrev pub invariant-loop-k : goal.invariant-loop-k
invariant-loop-k l =
    let h = l.helpers in
    Left h.nodes (at h.helpands.now) l.n (λ j. l.limit - least_at l.cells j) (total_at l.cells l.n) l.left l.k

abbrev pub decreases-loop-k : goal.decreases-loop-k
decreases-loop-k l = l.helpers.nodes - l.k
