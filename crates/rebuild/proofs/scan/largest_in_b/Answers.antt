-- `scan::largest_in_b` meets its contract: what the chain keeps of the nodes in B is the best of them. Assumes nothing.
use mathlib.Core.Path.{refl}
use native.Mathlib.Omega.{arith}
use borrow.Author.Rules.{rules}
use borrow.Author.Tests.{tests}
use Rattle.std.proofs.iter.Serving.{same, same_first, same_first_first, Mut-same, of_turns}
use Rattle.std.proofs.lemmas.Iterator.{YieldsList-from_range}
use Rattle.std.proofs.lemmas.Iterator.Consumers.{YieldsList-at, YieldsList-from_filter}
use Rattle.fold.specs.Best.{larger}
use Rattle.arrays.specs.Arrays.{at}
use Rattle.rebuild.specs.Rebuild.{in_b}
use Rattle.rebuild.proofs.Chains.{best-of}
use Rattle.rebuild.proofs.scan.largest_in_b.Goals as goal

pub returns : goal.returns
returns c =
    let a = c.args in
    let ok = in_b a.loads.now a.targets.now a.finished.now in
    let beats = larger (at a.loads.now) in
    best-of ok beats _ c.filter.result c.reduce.result a.nodes c.reduce.ensures.ran
    (YieldsList-from_filter _ ok
    (YieldsList-at c.filter.ensures.source (YieldsList-from_range 0 a.nodes a.nodes refl (omega arith)))
    c.filter.ensures.closure (λ x b q k. search (rules, tests)))
    (λ b k v q called. search (rules, tests))

-- a turn's node is below the number of nodes, and so is the best so far
pub reduce-requires-clause-callable : goal.reduce-requires-clause-callable
reduce-requires-clause-callable c = grind (arith, same, same_first, same_first_first, Mut-same, of_turns)
