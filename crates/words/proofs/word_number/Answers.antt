-- `words::word_number` meets its contract: the four bytes from 4 k on are word k. Assumes nothing.
use native.Mathlib.Omega.{arith}
use lib.ListN.{length}
use Prim.Native.Nat.{◌/◌}
use Rattle.words.proofs.Words.{chunk-word}
use Rattle.words.proofs.word_number.Goals as goal

pub returns : goal.returns
returns c =
    let s = c.args.s.now in
    omega (arith, rw (← c.as_chunks.ensures.front) at (chunk-word s c.args.k (length s / 4) c.requires (omega arith)))
