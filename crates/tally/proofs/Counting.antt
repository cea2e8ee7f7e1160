-- One cell of a table changes: what becomes of the totals and of the sum. Assumes nothing.
use mathlib.Core.Path.{◌≡◌, refl, sym, ap, ◌∙◌}
use mathlib.Core.Logic.{◌≢◌}
use mathlib.Core.Bool.{Bool, true, false}
use mathlib.Core.List.{List}
use Prim.Native.Nat.{ℕ, ◌+◌, ◌≤◌, ◌<◌}
use native.Mathlib.Decide.{ℕ_discrete}
use native.Mathlib.Omega.{arith}
use lib.ListN.{length, set, length-set}
use lib.Seq.{get_or-set_same, get_or-set_other}
use Rattle.fold.specs.Sum.{sum}
use Rattle.fold.proofs.Sums.{sum-eq, sum-at, sum-set}
use Rattle.limit.specs.Limit.{max_nodes, table_size}
use Rattle.arrays.specs.Arrays.{at}
use Rattle.arrays.proofs.Tabulate.{tabulate-at, tabulate-behind, length-tabulate, tabulate-is}
use Rattle.sheet.specs.Sheet.{cell}
use Rattle.sheet.specs.Table.{held}
use Rattle.sheet.specs.Totals.{total_of, totals_of}
use Rattle.tally.specs.Call.{counted}

-- what adding or removing makes of a sum, when it makes this of one of its terms
counted-sum : (adds : Bool) (count has before after : ℕ) → (adds ≡ false → count ≤ has) → after + has ≡ before + counted adds count has
    → after ≡ counted adds count before
counted-sum true count has before after fits e = omega arith
counted-sum false count has before after fits e = omega (arith, fits refl)

-- a call on the cell of holder k and subdomain n
pub record OneCell (nodes : ℕ) (counts : List ℕ) (adds : Bool) (count k n : ℕ) : Type 0 where
  pub few : nodes ≤ max_nodes
  pub long : length counts ≡ table_size
  pub holder : k < nodes
  pub subdomain : n < nodes
  pub removed : adds ≡ false → count ≤ at counts (cell k n)

module _ {nodes : ℕ} {counts : List ℕ} {adds : Bool} {count k n : ℕ} (c : OneCell nodes counts adds count k n) where
  abbrev has : ℕ
  has = at counts (cell k n)

  abbrev after : List ℕ
  after = set counts (cell k n) (counted adds count has)

  inside : cell k n < length counts
  inside = omega (arith, c.long, c.holder, c.subdomain, c.few)

  pub counted-length : length after ≡ table_size
  counted-length = length-set counts (cell k n) (counted adds count has) ∙ c.long

  pub counted-all : sum table_size (at after) ≡ counted adds count (sum table_size (at counts))
  counted-all =
      counted-sum adds count has (sum table_size (at counts)) (sum table_size (at after)) c.removed
      (sum-set table_size counts (cell k n) (counted adds count has) (omega (arith, inside, c.long)) inside)

  counted-own : total_of nodes after n ≡ counted adds count (total_of nodes counts n)
  counted-own =
      counted-sum adds count has (total_of nodes counts n) (total_of nodes after n) c.removed
      (sum-at nodes (λ j. held after j n) (λ j. held counts j n) k c.holder
      (λ j l d. get_or-set_other counts (cell k n) (cell j n) (counted adds count has) 0 (λ e. d (omega arith)))
      ∙ ap (λ (x : ℕ). total_of nodes counts n + x) (get_or-set_same counts (cell k n) (counted adds count has) 0 inside))

  pub counted-other : (m : ℕ) → m < nodes → m ≢ n → total_of nodes after m ≡ total_of nodes counts m
  counted-other m l d =
      sum-eq nodes (λ j. held after j m) (λ j. held counts j m)
      (λ j b. get_or-set_other counts (cell k n) (cell j m) (counted adds count has) 0 (λ e. d (omega (arith, c.few, c.subdomain))))

  -- the totals change where they should
  pub counted-totals : set (totals_of nodes counts) n (counted adds count (at (totals_of nodes counts) n)) ≡ totals_of nodes after
  counted-totals =
      tabulate-is nodes (total_of nodes after) c.few changed (length-set old n new ∙ length-old) each
      (λ m l. get_or-set_other old n m new 0 (λ e. omega (arith, c.subdomain)) ∙ tabulate-behind nodes (total_of nodes counts) m l)
    where
      old : List ℕ
      old = totals_of nodes counts

      new : ℕ
      new = counted adds count (at old n)

      changed : List ℕ
      changed = set old n new

      length-old : length old ≡ 64
      length-old = length-tabulate nodes (total_of nodes counts) c.few

      at_old : (m : ℕ) → m < nodes → at old m ≡ total_of nodes counts m
      at_old = tabulate-at nodes (total_of nodes counts)

      each : (m : ℕ) → m < nodes → at changed m ≡ total_of nodes after m
      each m l = elim (ℕ_discrete m n) [
        | yes e ↦
            rw e
            (get_or-set_same old n new 0 (omega (arith, length-old, c.subdomain, c.few))
            ∙ ap (counted adds count) (at_old n c.subdomain)
            ∙ sym counted-own)
        | no d ↦ get_or-set_other old n m new 0 d ∙ at_old m l ∙ sym (counted-other m l d)
      ]
