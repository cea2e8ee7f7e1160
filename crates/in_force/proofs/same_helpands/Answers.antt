-- `in_force::same_helpands` meets its contract: the helpands are the same where their bytes are. Assumes nothing.
use native.Mathlib.Omega.{arith}
use borrow.Author.Tests.{eqb-true, eq-eqb}
use Rattle.std.proofs.lemmas.Slice.Eq.{slice_eq-Decides}
use Rattle.in_force.proofs.Same.{same-bytes}
use Rattle.in_force.proofs.same_helpands.Goals as goal

pub returns : goal.returns
returns c =
    let a = c.args in
    let p = c.requires in
    same-bytes a.nodes a.old.now a.new.now c.type_inv.old c.type_inv.new p.0 p.1 _ (omega arith) c.eq.result
    (slice_eq-Decides (λ x y. (eqb-true x y, eq-eqb x y)) _ _ c.eq.result c.eq.ensures)
