-- `weigh::leasts_of` meets its contract: the sheet's table, its totals, the plan's tree and its leasts, one after the other. Assumes
-- nothing.
use native.Mathlib.Omega.{arith}
use Rattle.sheet.proofs.Accepted.{sheet_unpackable}
use Rattle.plan.proofs.Accepted.{plan-accepted}
use Rattle.weigh.proofs.Checks.{facts, sum-within, array_tree}
use Rattle.weigh.proofs.Weighed.{leasts-read}
use Rattle.weigh.proofs.leasts_of.Goals as goal

pub unpack-table-requires : goal.unpack-table-requires
unpack-table-requires c = (_, sheet_unpackable _ _ (facts _ _ _ c.requires))

pub totals-totals-requires : goal.totals-totals-requires
totals-totals-requires c = ((facts _ _ _ c.requires).n_high, rw c.unpack-table.ensures (sum-within _ _ _ c.requires))

pub words_64-helpands-requires : goal.words_64-helpands-requires
words_64-helpands-requires c =
    let w = c.requires in
    (omega (arith, (plan-accepted _ w.plan).size, w.nodes), (facts _ _ _ w).n_high)

pub tree_leasts-requires : goal.tree_leasts-requires
tree_leasts-requires c = ((facts _ _ _ c.requires).n_high, rw c.words_64-helpands.ensures (array_tree _ _ _ c.requires))

pub returns : goal.returns
returns c =
    leasts-read _ _ _ c.requires _ _ _ _ c.unpack-table.ensures c.totals-totals.ensures c.words_64-helpands.ensures c.tree_leasts.ensures
