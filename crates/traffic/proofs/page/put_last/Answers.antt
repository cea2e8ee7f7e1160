-- `traffic::page::put_last` meets its contract: `==`, and what stands behind it. Assumes nothing.
use Rattle.text.specs.Text.{ascii}
use Rattle.text.proofs.Writing.{wrote_then}
use Rattle.traffic.proofs.Lines.{line-is}
use Rattle.traffic.proofs.page.put_last.Goals as goal

pub returns : goal.returns
returns c =
    let v = c.args in
    rw (line-is (ascii "==") v.sent v.received) (wrote_then (wrote_then c.byte.ensures c.byte-2.ensures) c.put_amounts.ensures)
