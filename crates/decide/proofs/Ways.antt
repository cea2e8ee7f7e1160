-- One law for each way that a decision can go. Assumes nothing.
use mathlib.Core.Path.{◌≡◌, sym, ap, ◌∙◌}
use mathlib.Core.Bool.{Bool, true, false}
use mathlib.Core.List.{List}
use Prim.Native.Nat.{ℕ}
use lib.Dec.{leb}
use Rattle.fold.specs.All.{all}
use Rattle.arrays.specs.Arrays.{at}
use Rattle.sheet.specs.Table.{held}
use Rattle.tree.specs.Least.{holds}
use Rattle.tree.proofs.Weighing.{holds_tabulated}
use Rattle.shares.specs.Shares.{kept_shares}
use Rattle.plan.specs.declared.Kind.TheVariants.{Kept}
use Rattle.decide.specs.declared.Decision.{Decision}
use Rattle.decide.specs.Decide.{primary_plan, leasts_of, rebuilt_plan, tree_plan, decided}
use Rattle.tree.specs.Primary.{primary}

module _ (nodes p limit : ℕ) (table totals old : List ℕ) where
  -- ---- with an old tree, whose leasts were worked out and tested

  module _ (leasts : List ℕ) (l : leasts ≡ leasts_of nodes old totals limit) where
    tested : (b : Bool) → b ≡ all nodes (λ n. leb (at leasts n) limit) → holds nodes (at old) (at totals) limit ≡ b
    tested b e =
        sym (holds_tabulated nodes (at old) (at totals) limit)
        ∙ ap (λ (xs : List ℕ). all nodes (λ n. leb (at xs n) limit)) (sym l)
        ∙ sym e

    pub way_kept : (b : Bool) → b ≡ all nodes (λ n. leb (at leasts n) limit) → b ≡ true
        → (shares : List ℕ) → shares ≡ kept_shares nodes (at old) limit (at leasts) (at totals) (held table)
        → record { kind = Kept; helpands = old; shares = shares } ≡ tree_plan nodes p limit table totals true old
    way_kept b e t shares s =
        rw (tested b e, t)
        (ap (λ (xs : List ℕ). record { kind = Kept; helpands = old; shares = xs })
        (s ∙ ap (λ (xs : List ℕ). kept_shares nodes (at old) limit (at xs) (at totals) (held table)) l))

    pub way_broken : (b : Bool) → b ≡ all nodes (λ n. leb (at leasts n) limit) → b ≡ false
        → (d : Decision) → d ≡ rebuilt_plan nodes p totals old → d ≡ tree_plan nodes p limit table totals true old
    way_broken b e f d r = rw (tested b e, f) r

  -- ---- the three ways of a step

  pub way_primary : (tree b : Bool) → b ≡ primary nodes (at totals) limit → b ≡ true
      → (d : Decision) → d ≡ primary_plan nodes → d ≡ decided nodes p limit table totals tree old
  unfolding decided
  way_primary tree b e t d r = rw (← e, t) r

  pub way_weighed : (tree b : Bool) → b ≡ primary nodes (at totals) limit → b ≡ false → tree ≡ true
      → (d : Decision) → d ≡ tree_plan nodes p limit table totals true old → d ≡ decided nodes p limit table totals tree old
  unfolding decided
  way_weighed tree b e f t d r = rw (← e, f, t) r

  pub way_none : (tree b : Bool) → b ≡ primary nodes (at totals) limit → b ≡ false → tree ≡ false
      → (d : Decision) → d ≡ rebuilt_plan nodes p totals old → d ≡ decided nodes p limit table totals tree old
  unfolding decided
  way_none tree b e f t d r = rw (← e, f, t) r
