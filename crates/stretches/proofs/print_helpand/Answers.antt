-- `stretches::print_helpand` is safe: a blank and the digits of a word are at most 11 bytes. Assumes nothing.
use mathlib.Core.Path.{ap}
use Rattle.std.proofs.Common.{arith, ◌≤◌, length}
use Rattle.text.proofs.Lengths.{decimal-le}
use Rattle.stretches.proofs.print_helpand.Goals as goal

pub number-requires : goal.number-requires
number-requires g c = omega (arith, decimal-le c.args.helpand, ap length c.new-w.ensures.bytes)

pub written-requires : goal.written-requires
written-requires g c = omega (arith, decimal-le c.args.helpand, ap length c.new-w.ensures.bytes)
