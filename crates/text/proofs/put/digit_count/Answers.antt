use mathlib.Core.Path.{ap}
use native.Mathlib.Omega.{arith}
use lib.ListN.{length}
use Rattle.text.proofs.Digits.{decimal-one, length_more}
use Rattle.text.proofs.Lengths.{decimal-le}
use Rattle.text.proofs.put.digit_count.Goals as goal

pub overflow_add-k : goal.overflow_add-k
overflow_add-k c =
    omega (arith, c.loop-rest.invariant.0, decimal-le c.args.x)

pub loop-rest-preserved : goal.loop-rest-preserved
loop-rest-preserved c =
    let i = c.loop-rest.invariant in
    (omega (arith, i.0, length_more c.loop-rest.rest (omega arith) i.1), omega (arith, i.1))

pub returns : goal.returns
returns c =
    omega (arith, c.loop-rest.invariant.0, ap length (decimal-one c.loop-rest.rest (omega arith)))
