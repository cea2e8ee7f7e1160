-- `Balance::smallest_in_a` meets its contract: the node that is found is under its target. Assumes nothing.
use Rattle.rebuild.proofs.Choices.{smallest_under}
use Rattle.rebuild.proofs.Balance.smallest_in_a.Goals as goal

pub returns : goal.returns
returns c =
    let e = c.smallest_in_a.ensures in
    record { smallest = e; under = smallest_under _ _ _ _ _ e }
