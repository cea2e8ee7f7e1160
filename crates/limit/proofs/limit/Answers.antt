-- `limit::limit` meets its contract: P/N rounded up is std's. Assumes nothing.
use native.Mathlib.Omega.{arith}
use Rattle.limit.specs.Limit.{limit_of}
use Rattle.limit.proofs.Laws.{rounded_up}
use Rattle.limit.proofs.limit.Goals as goal

pub returns : goal.returns
unfolding limit_of
returns c = omega (arith, rounded_up c.args.p c.args.n c.requires.1)
