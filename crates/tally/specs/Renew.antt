-- The leasts when one total has changed: no other leasts change than those of its node, of the node's helpand, and so on up the tree.
use Rattle.std.specs.Prelude.{ℕ, zero, suc, ◌+◌, ◌-◌, cond, List, eqb, set}
use Rattle.plan.specs.Tree.{is_root}
use Rattle.tree.specs.Family.{over_helpers}
use Rattle.tally.specs.Layout.{total_at, least_at}

-- document 01's rule, with the helpers' leasts as they are noted: "An owner's least is its count less what all its helpers can spare, and
-- never below 0", and "What a helper can spare is L less its least, or 0 if its least is above L."
abbrev pub least_from : ℕ → (ℕ → ℕ) → ℕ → List ℕ → ℕ → ℕ
least_from nodes h limit cells n = total_at cells n - over_helpers nodes h n (λ k. limit - least_at cells k)

-- the least of n is worked out anew, then that of its helpand, and so on: up to one that stays as it was, or the root, or so many nodes
unfoldable pub renewed : ℕ → (ℕ → ℕ) → ℕ → ℕ → ℕ → List ℕ → List ℕ
renewed nodes h limit zero n cells = cells
renewed nodes h limit (suc more) n cells =
    let new = least_from nodes h limit cells n in
    let above = renewed nodes h limit more (h n) (set cells (64 + n) new) in
    cond (eqb new (least_at cells n)) cells (cond (is_root h n) (set cells (64 + n) new) above)
