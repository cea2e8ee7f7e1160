-- `run::read_words` meets its contract: the words that were read stand before the zeros. Assumes nothing.
use native.Mathlib.Omega.{arith}
use lib.ListN.{replicate, length-replicate}
use Rattle.words.specs.Words.{words}
use Rattle.words.proofs.Words.{length-words}
use Rattle.words.proofs.Buffer.{read_placed}
use Rattle.run.proofs.read_words.Goals as goal

pub returns : goal.returns
returns c =
    let ws = words c.args.s.now in
    read_placed ws (replicate 4096 0) _ c.args.first c.args.k (simp length-words (omega arith)) (simp length-replicate (omega arith))
    c.get_words.ensures
