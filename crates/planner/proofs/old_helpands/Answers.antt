-- `planner::old_helpands` meets its contract: the words of the old plan, where it has a tree. Assumes nothing.
use mathlib.Core.Path.{refl, ap}
use mathlib.Core.List.{List}
use Prim.Native.Nat.{ℕ}
use native.Mathlib.Omega.{arith}
use Rattle.std.specs.Prelude.{Some}
use Rattle.plan.proofs.Trees.{tree-below}
use Rattle.planner.proofs.old_helpands.Goals as goal

pub returns-then-tree : goal.returns-then-tree
returns-then-tree c =
    let e = c.words_64.ensures in
    let t = (c.requires.1 c.if-tree.true).tree in
    rw c.if-tree.true (record {
      helpands = ap (λ (h : List ℕ). Some h) e;
      has_tree = refl;
      known = e;
      below = rw e (tree-below t.1);
      rooted = rw e t;
    })

pub returns : goal.returns
returns c = rw c.if-tree.false (record { helpands = refl; has_tree = refl; known = refl; below = tt; rooted = tt })

pub words_64-requires : goal.words_64-requires
words_64-requires c = (omega (arith, (c.requires.1 c.if-tree.true).size), c.requires.0)
