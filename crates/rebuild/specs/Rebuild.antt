-- Document 01, 'Rebuilding', turn by turn: a state of arrays of 64, the two groups, a turn, the loop, and its end.
use Rattle.std.specs.Prelude.{ℕ, zero, suc, ◌-◌, List, Bool, true, false, ◌&&◌, not, cond, eqb, ltb, leb, get_or, set, replicate, None, Option, Some}
use Rattle.fold.specs.Best.{smallest, largest, first}
use Rattle.arrays.specs.Arrays.{at, tabulate}
use Rattle.rebuild.specs.declared.Balance.{Balance}
use Rattle.rebuild.specs.declared.Rebuilt.{Rebuilt}
use Rattle.rebuild.specs.Target.{targets_of}

-- ---- the two groups

-- entry k of an array of marks
abbrev pub is : List Bool → ℕ → Bool
is marks k = get_or marks k false

-- "Group A holds nodes with load under target, group B the others." A finished node is "in neither group".
abbrev pub group_a : ℕ → ℕ → Bool → Bool
group_a load target finished = not finished && ltb load target

abbrev pub group_b : ℕ → ℕ → Bool → Bool
group_b load target finished = not finished && leb target load

abbrev pub in_a : List ℕ → List ℕ → List Bool → ℕ → Bool
in_a loads targets finished k = group_a (at loads k) (at targets k) (is finished k)

abbrev pub in_b : List ℕ → List ℕ → List Bool → ℕ → Bool
in_b loads targets finished k = group_b (at loads k) (at targets k) (is finished k)

-- ---- the choice of a turn

-- "l is the node in A with the smallest load, lowest number on ties."
abbrev pub smallest_in_a : ℕ → List ℕ → List ℕ → List Bool → Option ℕ
smallest_in_a nodes loads targets finished = smallest (in_a loads targets finished) (at loads) nodes

-- "the node in B with the largest load, lowest number on ties"
abbrev pub largest_in_b : ℕ → List ℕ → List ℕ → List Bool → Option ℕ
largest_in_b nodes loads targets finished = largest (in_b loads targets finished) (at loads) nodes

-- "g is l's helpand in the old tree, if l was not its root, g is in B and g's load is at least the need." h is l's old helpand. A node
-- whose old helpand is itself was the root. "An empty or kind 0 old plan has no old tree": there every node is its own old helpand, as
-- in the helpands of a plan of kind 0, so that none takes an old one.
abbrev pub old_serves : List ℕ → List ℕ → List Bool → ℕ → ℕ → ℕ → Bool
old_serves loads targets finished l need h = not (eqb h l) && (in_b loads targets finished h && leb need (at loads h))

-- "Otherwise g is the node in B with the largest load, lowest number on ties."
abbrev pub chosen : ℕ → List ℕ → List ℕ → List Bool → ℕ → ℕ → ℕ → Option ℕ
chosen nodes loads targets finished l need h =
    cond (old_serves loads targets finished l need h) (Some h) (largest_in_b nodes loads targets finished)

-- ---- a turn

-- "l helps g, its share is the need, and l is finished and in neither group from then on. g's load drops by the need, and g goes to A if
-- now under target." The groups follow from the loads.
unfoldable pub turn_of : Balance → ℕ → ℕ → ℕ → Balance
turn_of s l g need = record {
  loads = set s.loads g (at s.loads g - need);
  targets = s.targets;
  finished = set s.finished l true;
  helpands = set s.helpands l g;
  shares = set s.shares l need;
}

-- ---- the loop

-- l of a state
abbrev pub next_l : ℕ → Balance → Option ℕ
next_l nodes s = smallest_in_a nodes s.loads s.targets s.finished

-- "It needs target − load."
abbrev pub need_of : Balance → ℕ → ℕ
need_of s l = at s.targets l - at s.loads l

-- g of a state, for l; old has the helpands of the old tree
abbrev pub next_g : ℕ → List ℕ → Balance → ℕ → Option ℕ
next_g nodes old s l = chosen nodes s.loads s.targets s.finished l (need_of s l) (at old l)

-- "Load begins as Pn." No node is finished.
unfoldable pub start_of : ℕ → ℕ → List ℕ → Balance
start_of nodes p totals = record {
  loads = totals;
  targets = targets_of nodes p;
  finished = replicate 64 false;
  helpands = replicate 64 0;
  shares = replicate 64 0;
}

-- "While A has a node", and so many turns at most. B has a node then too.
unfoldable pub run_of : ℕ → List ℕ → ℕ → Balance → Balance
run_of nodes old zero s = s
run_of nodes old (suc turns) s = elim (next_l nodes s) [
  | None ↦ s
  | Some l ↦ elim (next_g nodes old s l) [ None ↦ s | Some g ↦ run_of nodes old turns (turn_of s l g (need_of s l)) ]
]

-- ---- the end

-- "Then the lowest node of B is the root"
abbrev pub lowest_in_b : ℕ → List ℕ → List ℕ → List Bool → Option ℕ
lowest_in_b nodes loads targets finished = first (in_b loads targets finished) nodes

-- "and the others in B help it with share 0." The root is its own helpand, as in every plan.
abbrev pub new_helpand : Balance → ℕ → ℕ → ℕ
new_helpand s root k = cond (in_b s.loads s.targets s.finished k) root (at s.helpands k)

abbrev pub new_share : Balance → ℕ → ℕ
new_share s k = cond (in_b s.loads s.targets s.finished k) 0 (at s.shares k)

-- B always has a node
unfoldable pub finish_of : ℕ → Balance → Rebuilt
finish_of nodes s = elim (lowest_in_b nodes s.loads s.targets s.finished) [
  | None ↦ record { helpands = s.helpands; shares = s.shares }
  | Some root ↦ record { helpands = tabulate nodes (new_helpand s root); shares = tabulate nodes (new_share s) }
]

-- the helpands and shares of a rebuilt plan. Each turn finishes a node, so there is one for each at most.
unfoldable pub rebuilt_of : ℕ → ℕ → List ℕ → List ℕ → Rebuilt
rebuilt_of nodes p totals old = finish_of nodes (run_of nodes old nodes (start_of nodes p totals))
