-- A call on the tally of some counts gives the tally of the counts after it, and is refused as the counts say. Assumes nothing.
use mathlib.Core.Path.{◌≡◌, sym, ap, ◌∙◌}
use mathlib.Core.Logic.{inl, inr}
use mathlib.Core.Bool.{Bool, true, false, not, ◌||◌}
use mathlib.Core.List.{List}
use Prim.Native.Nat.{ℕ, suc, ◌+◌, ◌≤◌, ◌<◌}
use native.Mathlib.Decide.{ℕ_discrete}
use native.Mathlib.Omega.{arith}
use Rattle.std.proofs.lemmas.Bool.Decides.{nat_tests}
use borrow.Author.Tests.{lt-ltb, eq-eqb, ne_eqb}
use lib.Dec.{eqb, ltb, leb}
use lib.ListN.{length, set}
use Rattle.fold.specs.Sum.{sum}
use Rattle.fold.proofs.Tests.{either, all_of, all-eq}
use Rattle.fold.proofs.Sums.{sum_term}
use Rattle.limit.specs.Limit.{max_nodes, max_total, table_size}
use Rattle.arrays.specs.Arrays.{at, tabulate}
use Rattle.arrays.proofs.Tabulate.{tabulate-at, length-tabulate}
use Rattle.sheet.specs.Table.{held}
use Rattle.sheet.specs.Totals.{total_of, totals_of}
use Rattle.sheet.proofs.Totalled.{total-le}
use Rattle.plan.specs.Tree.{Tree}
use Rattle.tree.specs.Least.{least, holds}
use Rattle.tree.proofs.Weighing.{holds_tabulated}
use Rattle.weigh.specs.Weigh.{refused, weighed}
use Rattle.words.specs.Checks.{refuse_as}
use Rattle.tally.specs.declared.Tally.{Tally}
use Rattle.tally.specs.Call.{Call, cell_of, counted, call_number}
use Rattle.tally.specs.Renew.{renewed}
use Rattle.tally.specs.Layout.{total_at, least_at, count_at, laid}
use Rattle.tally.specs.Tally.{tally_of, usable, number_in, counted_cells, cells_after, changed, tally_after, call_answer, holding}
use Rattle.tally.specs.Calls.{number_on, counts_after}
use Rattle.tally.proofs.Laid.{Rows, laid-total, laid-least, laid-count, set-total, set-count}
use Rattle.tally.proofs.Renewing.{renewed-leasts}
use Rattle.tally.proofs.Counting.{OneCell, counted-length, counted-all, counted-other, counted-totals}

-- ---- what the checks say when none refuses

pub record Fits (n has total : ℕ) (c : Call) : Type 0 where
  pub holder : c.holder < n
  pub subdomain : c.subdomain < n
  pub removed : c.adds ≡ false → c.count ≤ has
  pub added : c.adds ≡ true → total + c.count ≤ max_total

pub fits : (n has total : ℕ) (c : Call) → call_number n has total c ≡ 0 → Fits n has total c
unfolding call_number
fits n has total c e =
    record {
      holder = grind (arith, nat_tests);
      subdomain = grind (arith, nat_tests);
      removed = λ q. grind (arith, nat_tests);
      added = λ q. grind (arith, nat_tests);
    }

-- ---- the tally of n nodes with these counts

-- a table of counts that a sheet can have
pub record Valid (counts : List ℕ) : Type 0 where
  pub long : length counts ≡ table_size
  pub within : sum table_size (at counts) ≤ max_total

module _ (n limit : ℕ) (helpands : List ℕ) (few : n ≤ max_nodes) (counts : List ℕ) where
  abbrev lst : ℕ → ℕ
  lst = least n (at helpands) (at (totals_of n counts)) limit

  fresh_rows : Rows (totals_of n counts) (tabulate n lst)
  fresh_rows = record { totals_long = length-tabulate n (total_of n counts) few; leasts_long = length-tabulate n lst few }

  -- by its leasts the tree holds as it should
  holding_fresh : holding n limit (tally_of n limit helpands counts).cells ≡ holds n (at helpands) (at (totals_of n counts)) limit
  unfolding tally_of
  holding_fresh =
      all-eq n (λ k. leb (least_at (tally_of n limit helpands counts).cells k) limit) (λ k. leb (at (tabulate n lst) k) limit)
      (λ k l. ap (λ (x : ℕ). leb x limit) (laid-least fresh_rows counts k (omega arith)))
      ∙ holds_tabulated n (at helpands) (at (totals_of n counts)) limit

module _ (n limit : ℕ) (helpands : List ℕ) (few : n ≤ max_nodes) {r : ℕ} (t : Tree n (at helpands) r) (counts : List ℕ) where
  abbrev now : Tally
  now = tally_of n limit helpands counts

  abbrev leasts : List ℕ
  leasts = tabulate n (least n (at helpands) (at (totals_of n counts)) limit)

  rows : Rows (totals_of n counts) leasts
  rows = fresh_rows n limit helpands few counts

  total_is : (d : ℕ) → d < n → total_at (laid (totals_of n counts) leasts counts) d ≡ total_of n counts d
  total_is d l = laid-total rows counts d (omega arith) ∙ tabulate-at n (total_of n counts) d l

  -- it is usable wherever a call names a cell
  now-usable : (c : Call) → c.holder < n → c.subdomain < n → usable now c ≡ true
  unfolding tally_of
  now-usable c k d =
      let total = total_is c.subdomain d in
      let count = laid-count rows counts (cell_of c) in
      let part = sum_term n (λ j. held counts j c.subdomain) c.holder k in
      let whole = total-le counts n c.subdomain few (omega arith) in
      let has = count_at (laid (totals_of n counts) leasts counts) (cell_of c) in
      let own = total_at (laid (totals_of n counts) leasts counts) c.subdomain in
      let below = all_of n (λ j. ltb (at helpands j) n) (λ j l. lt-ltb (at helpands j) n (t.inside j l)) in
      grind (arith, nat_tests, total, count, part, whole, below)

  -- and refuses as the counts say
  pub number_same : (c : Call) → number_in now c ≡ number_on n counts c
  unfolding number_in call_number tally_of
  number_same c = elim (either no_cell) [
    | inl e ↦ grind (arith, nat_tests)
    | inr e ↦ rw (now-usable c (grind (arith, nat_tests)) (grind (arith, nat_tests)), laid-count rows counts (cell_of c))
  ]
    where
      no_cell : Bool
      no_cell = not (ltb c.holder n) || (not (ltb c.subdomain n) || eqb c.count 0)

  module _ (v : Valid counts) (c : Call) (accepted : number_on n counts c ≡ 0) where
    abbrev next : List ℕ
    next = set counts (cell_of c) (counted c.adds c.count (at counts (cell_of c)))

    fit : Fits n (at counts (cell_of c)) (sum table_size (at counts)) c
    fit = fits n (at counts (cell_of c)) (sum table_size (at counts)) c accepted

    one : OneCell n counts c.adds c.count c.holder c.subdomain
    one =
        record { few = few; long = v.long; holder = fit.holder; subdomain = fit.subdomain; removed = fit.removed }

    next-all : sum table_size (at next) ≡ counted c.adds c.count (sum table_size (at counts))
    next-all = counted-all one

    next-totals : set (totals_of n counts) c.subdomain (counted c.adds c.count (at (totals_of n counts) c.subdomain))
        ≡ totals_of n next
    next-totals = counted-totals one

    -- the count, the total and the leasts change in their places
    next-cells : renewed n (at helpands) limit (suc n) c.subdomain (counted_cells (laid (totals_of n counts) leasts counts) c)
        ≡ laid (totals_of n next) (tabulate n (least n (at helpands) (at (totals_of n next)) limit)) next
    next-cells =
        rw (
          laid-count rows counts (cell_of c),
          laid-total rows counts c.subdomain (omega (arith, fit.subdomain)),
          set-count rows counts (cell_of c) (counted c.adds c.count (at counts (cell_of c))),
          set-total rows next c.subdomain (counted c.adds c.count (at (totals_of n counts) c.subdomain))
              (omega (arith, fit.subdomain)),
          next-totals,
        )
        (renewed-leasts n (at helpands) limit few t (totals_of n next) (length-tabulate n (total_of n next) few) next (at (totals_of n counts))
        c.subdomain fit.subdomain
        (λ k l d. tabulate-at n (total_of n counts) k l ∙ sym (counted-other one k l d) ∙ sym (tabulate-at n (total_of n next) k l)))

    -- an accepted call gives the tally of the counts after it
    pub changed_fresh : changed now c ≡ tally_of n limit helpands next
    unfolding changed cells_after tally_of
    changed_fresh = rw (next-cells, ← next-all)

    pub next_valid : Valid next
    next_valid = record {
      long = counted-length one;
      within = elim (either c.adds) [
        | inl q ↦ omega (arith, next-all, more q, fit.added q)
        | inr q ↦ omega (arith, next-all, less q, v.within)
      ];
    }
      where
        more : c.adds ≡ true → counted c.adds c.count (sum table_size (at counts)) ≡ sum table_size (at counts) + c.count
        more q = rw q

        less : c.adds ≡ false → counted c.adds c.count (sum table_size (at counts)) ≤ sum table_size (at counts)
        less q = rw q (omega arith)

  -- any call does
  module _ (v : Valid counts) (c : Call) where
    pub after_fresh : tally_after now c ≡ tally_of n limit helpands (counts_after n counts c)
    unfolding tally_after counts_after
    after_fresh = elim (ℕ_discrete (number_on n counts c) 0) [
      | yes e ↦ rw (number_same c, eq-eqb (number_on n counts c) 0 e) (changed_fresh v c e)
      | no d ↦ rw (number_same c, ne_eqb (number_on n counts c) 0 d)
    ]

    pub after_valid : Valid (counts_after n counts c)
    unfolding counts_after
    after_valid = elim (ℕ_discrete (number_on n counts c) 0) [
      | yes e ↦ rw (eq-eqb (number_on n counts c) 0 e) (next_valid v c e)
      | no d ↦ rw (ne_eqb (number_on n counts c) 0 d) v
    ]

    -- and says whether the tree holds with the counts after it
    pub answer_fresh : call_answer now c ≡ refuse_as refused (number_on n counts c)
        (weighed (holds n (at helpands) (at (totals_of n (counts_after n counts c))) limit))
    unfolding call_answer counts_after tally_of
    answer_fresh = elim (ℕ_discrete (number_on n counts c) 0) [
      | yes e ↦
          rw (number_same c, eq-eqb (number_on n counts c) 0 e, changed_fresh v c e)
          (ap weighed (holding_fresh n limit helpands few (next v c e)))
      | no d ↦ rw (number_same c, ne_eqb (number_on n counts c) 0 d)
    ]
