-- Document 01, 'Deciding': which plan a step gets. Primary, or the old tree kept, or a tree rebuilt.
use Rattle.std.specs.Prelude.{Bool, ◌&&◌, cond, List, ℕ, replicate}
use Rattle.arrays.specs.Arrays.{at, tabulate}
use Rattle.sheet.specs.Table.{held}
use Rattle.tree.specs.Least.{least, holds}
use Rattle.shares.specs.Shares.{kept_shares}
use Rattle.rebuild.specs.Rebuild.{rebuilt_of}
use Rattle.plan.specs.declared.Kind.TheVariants.{Primary, Kept, Rebuilt}
use Rattle.decide.specs.declared.Decision.{Decision}
use Rattle.tree.specs.Primary.{primary}

-- each node's own number
abbrev pub own_numbers : ℕ → List ℕ
own_numbers nodes = tabulate nodes (λ k. k)

-- "In kind 0 every node is such a root": its helpand is its own number and its share is 0
abbrev pub primary_plan : ℕ → Decision
primary_plan nodes = record { kind = Primary; helpands = own_numbers nodes; shares = replicate 64 0 }

-- the leasts of all nodes
abbrev pub leasts_of : ℕ → List ℕ → List ℕ → ℕ → List ℕ
leasts_of nodes old totals limit = tabulate nodes (least nodes (at old) (at totals) limit)

-- "A tree that holds is kept (kind 1)", with the shares in a kept tree
abbrev pub kept_plan : ℕ → ℕ → List ℕ → List ℕ → List ℕ → Decision
kept_plan nodes limit table totals old = record {
  kind = Kept;
  helpands = old;
  shares = kept_shares nodes (at old) limit (at (leasts_of nodes old totals limit)) (at totals) (held table);
}

-- kind 2, rebuilt for a total of p
abbrev pub rebuilt_plan : ℕ → ℕ → List ℕ → List ℕ → Decision
rebuilt_plan nodes p totals old =
    record { kind = Rebuilt; helpands = (rebuilt_of nodes p totals old).helpands; shares = (rebuilt_of nodes p totals old).shares }

-- a tree is needed: the old one is kept if there is one and it holds
abbrev pub tree_plan : ℕ → ℕ → ℕ → List ℕ → List ℕ → Bool → List ℕ → Decision
tree_plan nodes p limit table totals tree old =
    cond (tree && holds nodes (at old) (at totals) limit) (kept_plan nodes limit table totals old) (rebuilt_plan nodes p totals old)

-- "if every Pn is at most L, the plan is kind 0 whatever the old tree. Otherwise a tree is needed." tree says whether there is an old
-- tree, and old has its helpands; without one each node is its own old helpand.
unfoldable pub decided : ℕ → ℕ → ℕ → List ℕ → List ℕ → Bool → List ℕ → Decision
decided nodes p limit table totals tree old =
    cond (primary nodes (at totals) limit) (primary_plan nodes) (tree_plan nodes p limit table totals tree old)
