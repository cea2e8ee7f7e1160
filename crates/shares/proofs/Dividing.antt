-- A family that is divided with its helpers' holds where it can afford them, and with their leasts otherwise, has the amounts of its
-- subdomain. Assumes nothing.
use mathlib.Core.Path.{◌≡◌, sym, ap, ◌∙◌}
use mathlib.Core.Bool.{true, false}
use mathlib.Core.List.{List}
use Prim.Native.Nat.{ℕ, ◌<◌}
use Rattle.arrays.specs.Arrays.{at}
use Rattle.arrays.proofs.Tabulate.{tabulate-at}
use Rattle.sheet.specs.Table.{held}
use Rattle.shares.specs.Hold.{hold, holds_of, affords, reserve}
use Rattle.shares.specs.Shares.{space, beside, amount}
use Rattle.shares.specs.Inner.{nodes_of, helpand_of, nodes_in, helpand_in, reserves_in, divided_in, amounts_in, Noted}
use Rattle.shares.specs.declared.kept.KeptTree.{KeptTree}
use Rattle.shares.specs.declared.kept.Family.{Family}
use Rattle.shares.proofs.Terms as terms
use Rattle.shares.proofs.Spaces.{space-eq, beside-eq}
use Rattle.shares.proofs.Holds.{affords-same, reserve-hold, reserve-least}
use Rattle.shares.proofs.Amounts.{divided-same}
use Rattle.shares.proofs.Noting.{noted-eq}

-- ---- of any arrays

module _ (nodes limit : ℕ) (helpands leasts totals table : List ℕ) (r n : ℕ) where
  abbrev amounts : ℕ → ℕ
  amounts = terms.amounts_in nodes limit helpands leasts totals table r n

  abbrev reserves : ℕ → ℕ
  reserves = reserve nodes (at helpands) limit (at leasts) (at totals) (held table) r n

  -- an array with the reserves of all nodes gives the amounts
  pub with_reserves : (array : List ℕ) → ((k : ℕ) → k < nodes → at array k ≡ reserves k)
      → (k : ℕ) → k < nodes → terms.divided_in nodes limit helpands array totals table r n k ≡ amounts k
  unfolding amount
  with_reserves array e =
      divided-same nodes (beside (at array) r n) (beside reserves r n) (space (at helpands) limit (at array) r n)
      (space (at helpands) limit reserves r n) (at totals n) (λ j. held table j n)
      (λ k l. beside-eq (at array) reserves r n k (e k l))
      (λ k l. space-eq (at helpands) limit (at array) reserves r n k (e k l))

  module _ (holds : List ℕ) (e : holds ≡ holds_of nodes limit leasts table) where
    hold_at : (k : ℕ) → k < nodes → at holds k ≡ hold limit (at leasts) (held table) k
    hold_at k l = ap (λ (xs : List ℕ). at xs k) e ∙ tabulate-at nodes (hold limit (at leasts) (held table)) k l

    same_test : affords nodes (at helpands) limit (at holds) (at totals) r n
        ≡ affords nodes (at helpands) limit (hold limit (at leasts) (held table)) (at totals) r n
    same_test = affords-same nodes (at helpands) limit (at holds) (hold limit (at leasts) (held table)) (at totals) r n hold_at

    -- which of the two are the reserves
    with_holds : affords nodes (at helpands) limit (at holds) (at totals) r n ≡ true → (k : ℕ) → k < nodes → at holds k ≡ reserves k
    with_holds a k l =
        hold_at k l ∙ sym (reserve-hold nodes (at helpands) limit (at leasts) (at totals) (held table) r n (sym same_test ∙ a) k)

    with_leasts : affords nodes (at helpands) limit (at holds) (at totals) r n ≡ false → (k : ℕ) → at leasts k ≡ reserves k
    with_leasts a k = sym (reserve-least nodes (at helpands) limit (at leasts) (at totals) (held table) r n (sym same_test ∙ a) k)

    -- the family can afford the holds
    pub holds-noted : {before after : List ℕ} → affords nodes (at helpands) limit (at holds) (at totals) r n ≡ true
        → Noted (at helpands) n (terms.divided_in nodes limit helpands holds totals table r n) nodes before after
        → Noted (at helpands) n amounts nodes before after
    holds-noted a p = noted-eq p (with_reserves holds (with_holds a))

    -- it cannot
    pub leasts-noted : {before after : List ℕ} → affords nodes (at helpands) limit (at holds) (at totals) r n ≡ false
        → Noted (at helpands) n (terms.divided_in nodes limit helpands leasts totals table r n) nodes before after
        → Noted (at helpands) n amounts nodes before after
    leasts-noted a p = noted-eq p (with_reserves leasts (λ k l. with_leasts a k))

-- ---- of a kept tree: which of the two a family uses

module _ (t : KeptTree) (r n : ℕ) where
  abbrev helpands_of : List ℕ
  helpands_of = t.helpers.now.helpands.now

  -- the family can afford the holds
  pub holds-reserves : affords (nodes_of t) (helpand_of t) t.limit (at t.holds.now) (at t.totals.now) r n ≡ true
      → (k : ℕ) → k < nodes_of t → at t.holds.now k ≡ reserves_in t r n k
  holds-reserves = with_holds (nodes_of t) t.limit helpands_of t.leasts.now t.totals.now t.table.now r n t.holds.now t.held

  -- it cannot
  pub leasts-reserves : affords (nodes_of t) (helpand_of t) t.limit (at t.holds.now) (at t.totals.now) r n ≡ false
      → (k : ℕ) → at t.leasts.now k ≡ reserves_in t r n k
  leasts-reserves = with_leasts (nodes_of t) t.limit helpands_of t.leasts.now t.totals.now t.table.now r n t.holds.now t.held

-- ---- with the reserves that it uses, what it gets is the amounts

pub amounts-noted : (f : Family) → ((k : ℕ) → k < nodes_in f → at f.reserves.now k ≡ reserves_in f.tree.now f.share f.n k)
    → {before after : List ℕ} → Noted (helpand_in f) f.n (divided_in f) (nodes_in f) before after
    → Noted (helpand_in f) f.n (amounts_in f.tree.now f.share f.n) (nodes_in f) before after
amounts-noted f e p =
    let t = f.tree.now in
    noted-eq p
    (with_reserves (nodes_in f) t.limit t.helpers.now.helpands.now t.leasts.now t.totals.now t.table.now f.share f.n f.reserves.now e)
