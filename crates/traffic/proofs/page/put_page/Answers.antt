-- `traffic::page::put_page` meets its contract: the lines of the nodes, and the last one behind them. Assumes nothing.
use mathlib.Core.Path.{ap, ◌∙◌}
use borrow.Author.Rules.{rules}
use native.Mathlib.Omega.{arith}
use lib.ListN.{length}
use Rattle.arrays.specs.Arrays.{at}
use Rattle.traffic.proofs.Lines.{length-nodes, column-total, page_put}
use Rattle.traffic.proofs.page.put_page.Goals as goal

pub put_nodes-requires-clause-room : goal.put_nodes-requires-clause-room
put_nodes-requires-clause-room c = omega (arith, ap length c.new-w.ensures.bytes, c.requires)

pub column_sum-s-requires : goal.column_sum-s-requires
column_sum-s-requires c = omega (arith, column-total c.args.sent c.args.nodes (omega arith), c.requires)

pub column_sum-r-requires : goal.column_sum-r-requires
column_sum-r-requires c = omega (arith, column-total c.args.received c.args.nodes (omega arith), c.requires)

pub put_last-requires : goal.put_last-requires
put_last-requires c =
    let a = c.args in
    omega (arith, ap length c.new-w.ensures.bytes, length-nodes a.nodes (at a.sent) (at a.received) c.requires.0, c.requires.3)

pub returns : goal.returns
returns c =
    let a = c.args in
    let new = c.new-w.ensures in
    let s = c.column_sum-s.ensures ∙ column-total a.sent a.nodes (omega arith) in
    let r = c.column_sum-r.ensures ∙ column-total a.received a.nodes (omega arith) in
    let page = page_put a.nodes (at a.sent) (at a.received) s r new.bytes new.front c.put_nodes.ensures c.put_last.ensures c.requires.0
    c.requires.3 in
    search (rules, page)
