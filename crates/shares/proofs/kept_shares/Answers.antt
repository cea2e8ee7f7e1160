-- `shares::kept_shares` meets its contract: a pass from the root reaches each node. Assumes nothing.
use borrow.Author.Rules.{rules}
use mathlib.Core.Path.{sym, ◌∙◌}
use Rattle.arrays.specs.Arrays.{at}
use Rattle.sheet.specs.Table.{held}
use Rattle.tree.proofs.Weighing.{root_shallow}
use Rattle.tree.proofs.Passing.{descended_root}
use Rattle.shares.proofs.KeptShares.{shares_described}
use Rattle.arrays.proofs.Padded.{zeros-at}
use Rattle.shares.proofs.kept_shares.Goals as goal

pub divide_below-requires : goal.divide_below-requires
divide_below-requires c =
    let a = c.args in
    let h = a.helpers.now in
    let t = c.requires.0 in
    let d = shares_described h.nodes (at h.helpands.now) a.limit (at a.leasts) (at a.totals) (held a.table.now) a.root t in
    (t.root, root_shallow h.nodes (at h.helpands.now) t, zeros-at 64 a.root ∙ sym (d.root a.root t.root t.own))

pub returns : goal.returns
returns c = descended_root c.requires.0 c.args.helpers.now.few (search rules) c.divide_below.ensures
