-- What the inner functions of this crate ask of each other. No promise to a caller rests on these definitions.
use Rattle.std.specs.Prelude.{◌≡◌, Bool, true, List, ℕ, ◌+◌, ◌*◌, ◌≤◌, length}
use Rattle.arrays.specs.Arrays.{at}
use Rattle.plan.specs.Tree.{Tree}
use Rattle.sheet.specs.declared.Sheet.{Sheet}
use Rattle.sheet.specs.Sheet.{read_sheet, accepted}
use Rattle.planner.specs.Step.{old_read, read_old, old_helpands}

-- the sheet was read as this, and the old plan has a tree or none
pub record StepRead (s o : List ℕ) (h : Sheet) (tree : Bool) : Type 0 where
  pub sheet : accepted h.n h.t h.e h.p h.limit ≡ read_sheet s
  pub old : read_old o h.n ≡ old_read tree

-- an old plan of n nodes has its helpands, and they are a tree
pub record OldTreeRead (o : List ℕ) (n : ℕ) : Type 0 where
  pub size : 4 * (3 + n) ≤ length o
  pub tree : (r : ℕ) × Tree n (at (old_helpands o true n)) r
