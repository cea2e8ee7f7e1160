-- `rebuild::rebuild` meets its contract: at the loop's head what is left to run from the state gives the whole, and the invariant of the
-- rebuilding says that whom l helps is found and has the need. The measure counts the unfinished nodes. Assumes nothing.
use Rattle.arrays.specs.Arrays.{at}
use Rattle.rebuild.specs.Rebuild.{start_of, run_of}
use Rattle.rebuild.proofs.Loops.{Reached, unfinished}
use Rattle.rebuild.proofs.rebuild.Given as goal

abbrev pub invariant-loop-l : goal.invariant-loop-l
invariant-loop-l l =
    Reached l.nodes l.p (at l.initial.s.loads) l.old (run_of l.nodes l.old l.nodes (start_of l.nodes l.p l.initial.s.loads)) l.s

abbrev pub decreases-loop-l : goal.decreases-loop-l
decreases-loop-l l = unfinished l.nodes l.s
