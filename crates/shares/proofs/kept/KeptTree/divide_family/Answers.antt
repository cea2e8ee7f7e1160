-- `KeptTree::divide_family` meets its contract: with the reserves that the family uses. Assumes nothing.
use Rattle.arrays.specs.Arrays.{at}
use Rattle.shares.specs.declared.kept.Family.{Family}
use Rattle.shares.proofs.Dividing.{amounts-noted}
use Rattle.shares.proofs.kept.KeptTree.divide_family.Goals as goal

pub returns : goal.returns
returns c =
    let a = c.args in
    let family : Family = record { tree = a.self; n = a.n; share = at a.shares.now a.n; reserves = c.reserves.result; inside = c.requires } in
    amounts-noted family c.reserves.ensures c.divide.ensures
