-- `text::write_refused` meets its contract: the one line, at the front. Assumes nothing.
use borrow.Author.Rules.{rules}
use native.Mathlib.Omega.{arith}
use Rattle.text.proofs.Lengths.{refused-le}
use Rattle.text.proofs.Writing.{wrote_front}
use Rattle.text.proofs.write_refused.Goals as goal

pub returns : goal.returns
returns c =
    let new = c.new-w.ensures in
    let whole = wrote_front new.bytes new.front c.put_refused.ensures (omega (arith, refused-le c.args.number)) in
    record { size = whole.0; bytes = search (rules, whole.1) }
