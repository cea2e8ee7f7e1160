-- `scan::first_in_b` meets its contract: the first node in B is found. Assumes nothing.
use mathlib.Core.Path.{◌≡◌, refl, sym, ◌∙◌}
use native.Mathlib.Omega.{arith}
use borrow.Author.Rules.{rules}
use borrow.Author.Tests.{tests}
use Rattle.std.proofs.lemmas.Iterator.{YieldsList-from_range}
use Rattle.std.proofs.lemmas.Iterator.Adapters.{option_map_id}
use Rattle.std.proofs.lemmas.Iterator.Search.{find_from_yields_List}
use Rattle.rebuild.specs.Rebuild.{in_b, lowest_in_b}
use Rattle.rebuild.proofs.Chains.{first-found}
use Rattle.rebuild.proofs.scan.first_in_b.Goals.{After-find}
use Rattle.rebuild.proofs.scan.first_in_b.Goals as goal

found : (c : After-find) →
    let a = c.args in
    c.find.result ≡ lowest_in_b a.nodes a.loads.now a.targets.now a.finished.now
found c =
    let a = c.args in
    let ok = in_b a.loads.now a.targets.now a.finished.now in
    sym (option_map_id c.find.result)
    ∙ find_from_yields_List ok _ _ c.find.result c.find.ensures.ran
    (YieldsList-from_range 0 a.nodes a.nodes refl (omega arith)) (λ x b q k. search (rules, tests))
    ∙ first-found ok a.nodes

pub returns : goal.returns
returns c = let e = found (goal.at.returns c).After-find in search rules
