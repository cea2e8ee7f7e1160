-- `sheet::write::put_sheet` meets its contract: at the loop's head both arrays hold the cells passed that have a count, and their
-- counts. Assumes nothing.
use mathlib.Core.Path.{◌≡◌}
use Prim.Native.Nat.{◌+◌, ◌*◌, ◌≤◌}
use lib.ListN.{length}
use lib.Seq.{sets}
use Rattle.fold.specs.Collect.{collect}
use Rattle.words.specs.Words.{encode}
use Rattle.sheet.specs.Write.{filled}
use Rattle.sheet.proofs.Filled.{counts}
use Rattle.sheet.proofs.write.put_sheet.Given as goal

abbrev pub invariant-loop-c : goal.invariant-loop-c
invariant-loop-c l =
    (l.i ≤ l.c) × (l.i ≡ length (collect l.c (filled l.table)))
    × (l.out ≡ sets (sets l.initial.out 12 (encode (collect l.c (filled l.table)))) (4 * (3 + l.e)) (encode (counts l.table l.c)))
