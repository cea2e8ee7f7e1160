-- `archive::write::put_empty` meets its contract: two words and the zeros behind them are one record. Assumes nothing.
use Rattle.archive.proofs.Storing.{empty_placed}
use Rattle.archive.proofs.write.put_empty.Goals as goal

pub returns : goal.returns
returns c =
    empty_placed c.args.out.now c.args.n c.args.t c.put_word.ensures c.put_word-2.ensures (c.fill.ensures.after (λ y e. e)) c.requires
