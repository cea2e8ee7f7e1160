-- The moves that are computed bring about the due amounts. In each subdomain all surplus and all shortage are equal, since due amounts
-- add up to the total; each node sends its surplus and receives its shortage; and a cell is met in its own subdomain alone. Assumes
-- nothing.
use mathlib.Core.Path.{◌≡◌, refl, sym, ap, subst, ◌∙◌}
use mathlib.Core.Logic.{◌≢◌, ◌⊎◌, inl, inr}
use mathlib.Core.Bool.{Bool, true, false}
use mathlib.Core.List.{List, [], ◌∷◌, ◌++◌}
use Prim.Native.Nat.{ℕ, zero, suc, ◌+◌, ◌-◌, ◌*◌, ◌/◌, ◌%◌, ◌≤◌, ◌<◌, min}
use native.Mathlib.Decide.{ℕ_discrete}
use native.Mathlib.Omega.{arith}
use borrow.Author.Tests.{eq-eqb, ne_eqb}
use lib.Dec.{eqb}
use lib.ListN.{length, get_or}
use Rattle.fold.specs.Sum.{only, sum}
use Rattle.fold.specs.All.{every}
use Rattle.fold.specs.Collect.{collect}
use Rattle.fold.specs.Rising.{rising}
use Rattle.fold.proofs.Tests.{either, and_left, and_right, and_both, only-is, only-not}
use Rattle.fold.proofs.Sums.{sum-add, sum-eq, sum-only, sum_term}
use Rattle.fold.proofs.Lists.{rises, rising_more, rising_none, rising-from}
use Rattle.limit.specs.Limit.{max_nodes, max_total, table_size}
use Rattle.words.proofs.Words.{Below, below_none, below-append, below_tail}
use Rattle.sheet.specs.Sheet.{cell_fine, cell}
use Rattle.sheet.proofs.Laws.{cell-holder, cell-subdomain}
use Rattle.arrays.specs.Arrays.{at}
use Rattle.sheet.specs.Table.{held}
use Rattle.moves.specs.Moves.{subdomain, route_fine, count_fine}
use Rattle.transfer.specs.Due.{due_of}
use Rattle.transfer.specs.Inner.{Allotted}
use Rattle.transfer.specs.Matching.{surplus_of, shortage_of, subdomain_moves, all_routes, all_counts}
use Rattle.transfer.specs.Apply.{from_cell, into_cell, moved, sends, receives, sends_within, carried}
use Rattle.transfer.proofs.Acceptable.{Acceptable}
use Rattle.transfer.proofs.Dues.{due-sum}
use Rattle.transfer.proofs.Ends.{moved_absent, moved-collect}
use Rattle.transfer.proofs.Matched.{surplus-apart, moves-few, routes-rise, routes_in, counts_fine_lem, sends-surplus, receives-shortage}
use Rattle.transfer.proofs.Subdomains.{subdomain_routes, subdomain_counts, lengths_in, lengths, few-all}
use Rattle.transfer.proofs.Applied.{carried-at, within_of}
use Rattle.transfer.proofs.Kept.{RoutesFine, acceptable_fine, sends-outside}
use Rattle.arrays.proofs.Tabulate.{tabulate-at}
use Rattle.sheet.specs.Totals.{total_of, totals_of}

-- ---- lists in two parts

rising-append : (ok : ℕ → Bool) (low mid : ℕ) (xs ys : List ℕ) → low ≤ mid → Below mid xs → rising ok low xs ≡ true
    → rising ok mid ys ≡ true → rising ok low (xs ++ ys) ≡ true
rising-append ok low mid [] ys h b e f = rising-from ok mid low ys h f
rising-append ok low mid (x ∷ xs) ys h b e f =
    let r = rises ok low x xs e in
    rising_more ok low x (xs ++ ys) r.above r.passes
    ∙ rising-append ok (x + 1) mid xs ys (omega (arith, b 0 (omega arith))) (below_tail mid x xs b) r.rest f

every_append : (p : ℕ → Bool) (xs ys : List ℕ) → every p xs ≡ true → every p ys ≡ true → every p (xs ++ ys) ≡ true
unfolding every
every_append p [] ys e f = f
every_append p (x ∷ xs) ys e f =
    and_both (p x) (every p (xs ++ ys)) (and_left (p x) (every p xs) e) (every_append p xs ys (and_right (p x) (every p xs) e) f)

-- ---- cells: each names two nodes, or does not

each-cell : (nodes : ℕ) (Q : ℕ → Type 0) → ((k n : ℕ) → k < nodes → n < nodes → Q (cell k n)) → ((c : ℕ) → cell_fine nodes c ≡ false → Q c)
    → (c : ℕ) → Q c
each-cell nodes Q p q c = split (either (cell_fine nodes c))
  where
    split : (cell_fine nodes c ≡ true) ⊎ (cell_fine nodes c ≡ false) → Q c
    split (inl e) =
        let z : 64 * (c / 64) + c % 64 ≡ c = omega arith in
        subst Q z (p (c / 64) (c % 64) (cell-holder nodes c e) (cell-subdomain nodes c e))
    split (inr e) = q c e

-- ---- any amounts that add up to the totals

module _ (nodes : ℕ) (table : List ℕ) (due : ℕ → ℕ → ℕ) (h64 : nodes ≤ max_nodes) where
  -- what node k has of subdomain n above what is due, and what it lacks of it
  abbrev above : ℕ → ℕ → ℕ
  above n k = surplus_of (held table k n) (due n k)

  abbrev lacks : ℕ → ℕ → ℕ
  lacks n k = shortage_of (held table k n) (due n k)

  -- ---- the record

  routes-all : (n : ℕ) → n ≤ nodes
      → (rising (route_fine nodes) 0 (collect n (subdomain_routes nodes table due)) ≡ true)
      × Below (n * table_size) (collect n (subdomain_routes nodes table due))
  unfolding collect
  routes-all zero h = (rising_none (route_fine nodes) 0, below_none 0)
  routes-all (suc n) h =
      let ih = routes-all n (omega arith) in
      let new : Below (suc n * table_size) (subdomain_routes nodes table due n) =
      λ i l. omega (arith, routes_in nodes (above n) (lacks n) n h64 i l) in
      let up : Below (suc n * table_size) (collect n (subdomain_routes nodes table due)) = λ i l. omega (arith, ih.1 i l) in (
        rising-append (route_fine nodes) 0 (n * table_size) (collect n (subdomain_routes nodes table due)) (subdomain_routes nodes table due n)
            (omega arith)
            ih.1 ih.0
            (routes-rise nodes (above n) (lacks n) (λ k. surplus-apart (held table k n) (due n k)) n (omega arith) h64),
        below-append (suc n * table_size) (collect n (subdomain_routes nodes table due)) (subdomain_routes nodes table due n) up new,
      )

  counts_all : sum table_size (at table) ≤ max_total → (n : ℕ) → n ≤ nodes
      → every count_fine (collect n (subdomain_counts nodes table due)) ≡ true
  unfolding collect
  counts_all small zero h = unfold every in refl
  counts_all small (suc n) h =
      every_append count_fine (collect n (subdomain_counts nodes table due)) (subdomain_counts nodes table due n)
      (counts_all small n (omega arith))
      (counts_fine_lem nodes (above n) (lacks n)
      (λ k l. most (held table k n) (due n k) (sum table_size (at table)) (sum_term table_size (at table) (cell k n) (omega arith)) small))
    where
      most : (x d p : ℕ) → x ≤ p → p ≤ max_total → surplus_of x d ≤ max_total
      most x d p a b = omega arith

  pub acceptable : sum table_size (at table) ≤ max_total → Acceptable nodes (all_routes nodes table due) (all_counts nodes table due)
  acceptable small =
      record {
        same = lengths nodes table due nodes;
        few = few-all nodes table due nodes;
        routes_fine = (routes-all nodes (omega arith)).0;
        counts_fine_lem = counts_all small nodes (omega arith);
      }

  -- ---- what each cell sends and receives

  -- a cell of subdomain n is met in subdomain n alone
  module _ (end : ℕ → ℕ) (k n : ℕ) (hn : n < nodes)
      (own : (route : ℕ) → subdomain route < 64 → end route ≡ cell k n → subdomain route ≡ n) where
    moved-own : moved end (all_routes nodes table due) (all_counts nodes table due) (cell k n)
        ≡ moved end (subdomain_routes nodes table due n) (subdomain_counts nodes table due n) (cell k n)
    moved-own =
        (moved-collect end nodes (subdomain_routes nodes table due) (subdomain_counts nodes table due) (cell k n)
        (lengths_in nodes table due)).1
        ∙ sum-eq nodes part (λ j. only (eqb j n) (part j)) (λ j l. elim (ℕ_discrete j n) [
          | yes e ↦ sym (only-is (eqb j n) (part j) (eq-eqb j n e))
          | no d ↦ absent j l d ∙ sym (only-not (eqb j n) (part j) (ne_eqb j n d))
        ])
        ∙ sum-only nodes part n hn
      where
        part : ℕ → ℕ
        part j = moved end (subdomain_routes nodes table due j) (subdomain_counts nodes table due j) (cell k n)

        absent : (j : ℕ) → j < nodes → j ≢ n → part j ≡ 0
        absent j l d =
            moved_absent end (subdomain_routes nodes table due j) (subdomain_counts nodes table due j) (cell k n) (λ i b e.
            let s = routes_in nodes (above j) (lacks j) j h64 i b in
            d (sym s ∙ own (get_or (subdomain_routes nodes table due j) i 0) (omega (arith, s)) e))

  module _ (even : (n : ℕ) → n < nodes → sum nodes (due n) ≡ total_of nodes table n) where
    -- all that is sent of a subdomain is all that is received
    equal : (n : ℕ) → n < nodes → sum nodes (above n) ≡ sum nodes (lacks n)
    equal n hn =
        omega (
          arith,
          even n hn,
          sum-add nodes (λ k. held table k n) (lacks n),
          sum-add nodes (due n) (above n),
          sum-eq nodes (λ k. held table k n + lacks n k) (λ k. due n k + above n k) (λ k l. both (held table k n) (due n k)),
        )
      where
        both : (x d : ℕ) → x + shortage_of x d ≡ d + surplus_of x d
        both x d = omega arith

    sends-above : (k n : ℕ) → k < nodes → n < nodes → sends (all_routes nodes table due) (all_counts nodes table due) (cell k n) ≡ above n k
    sends-above k n hk hn =
        moved-own from_cell k n hn (λ route b e. omega (arith, e, b))
        ∙ sends-surplus nodes (above n) (lacks n) (equal n hn) n k h64 (omega arith) hk

    receives-lacks : (k n : ℕ) → k < nodes → n < nodes
        → receives (all_routes nodes table due) (all_counts nodes table due) (cell k n) ≡ lacks n k
    receives-lacks k n hk hn =
        moved-own into_cell k n hn (λ route b e. omega (arith, e, b))
        ∙ receives-shortage nodes (above n) (lacks n) (equal n hn) n k h64 (omega arith) hk

    module _ (size : length table ≡ table_size) (small : sum table_size (at table) ≤ max_total) where
      fine : RoutesFine nodes (all_routes nodes table due)
      fine = acceptable_fine nodes h64 (all_routes nodes table due) (all_counts nodes table due) (acceptable small)

      abbrev sent : ℕ → ℕ
      sent = sends (all_routes nodes table due) (all_counts nodes table due)

      abbrev got : ℕ → ℕ
      got = receives (all_routes nodes table due) (all_counts nodes table due)

      pub cell_apart : (c : ℕ) → min (sent c) (got c) ≡ 0
      cell_apart =
          each-cell nodes (λ c. min (sent c) (got c) ≡ 0)
          (λ k n hk hn. rw (sends-above k n hk hn, receives-lacks k n hk hn) (surplus-apart (held table k n) (due n k)))
          (λ c out. omega (arith, sends-outside nodes h64 (all_routes nodes table due) (all_counts nodes table due) fine c out))

      pub not-refused : sends_within table (all_routes nodes table due) (all_counts nodes table due) ≡ true
      not-refused =
          within_of table (all_routes nodes table due) (all_counts nodes table due) (λ c l.
          each-cell nodes (λ d. sent d ≤ at table d)
          (λ k n hk hn. rw (sends-above k n hk hn) (less (held table k n) (due n k)))
          (λ d out. omega (arith, sends-outside nodes h64 (all_routes nodes table due) (all_counts nodes table due) fine d out)) c)
        where
          less : (x d : ℕ) → surplus_of x d ≤ x
          less x d = omega arith

      pub due-reached : (k n : ℕ) → k < nodes → n < nodes
          → held (carried table (all_routes nodes table due) (all_counts nodes table due)) k n ≡ due n k
      due-reached k n hk hn =
          let l : cell k n < length table = omega arith in
          carried-at (all_routes nodes table due) (all_counts nodes table due) table (cell k n) l
          ∙ rw (sends-above k n hk hn, receives-lacks k n hk hn) (evens (held table k n) (due n k))
        where
          evens : (x d : ℕ) → x - surplus_of x d + shortage_of x d ≡ d
          evens x d = omega arith

-- ---- the due amounts of a plan

-- the moves that are computed for amounts due carry them out
pub record Carries (nodes : ℕ) (table : List ℕ) (due : ℕ → ℕ → ℕ) : Type 0 where
  -- the amounts due of a subdomain add up to its total
  pub adds_up : (n : ℕ) → n < nodes → sum nodes (due n) ≡ total_of nodes table n
  -- *read moves* accepts them: routes rise strictly and are fine, counts are 1 to 1,000,000,000, and there are at most N × (N-1)
  pub accepted : Acceptable nodes (all_routes nodes table due) (all_counts nodes table due)
  -- there are at most N - 1 in one subdomain
  pub few : (n : ℕ) → length (subdomain_moves nodes table due n) ≤ nodes - 1
  -- nobody sends and receives the same subdomain
  pub apart : (c : ℕ) →
      let routes = all_routes nodes table due in
      let counts = all_counts nodes table due in
      min (sends routes counts c) (receives routes counts c) ≡ 0
  -- they are not refused with 42
  pub within : sends_within table (all_routes nodes table due) (all_counts nodes table due) ≡ true
  -- and after them each node holds its due amount of each subdomain
  pub reached : (k n : ℕ) → k < nodes → n < nodes
      → held (carried table (all_routes nodes table due) (all_counts nodes table due)) k n ≡ due n k

-- THEOREM 5. The moves that are computed from a table of counts and a plan's helpands and shares carry out its due amounts.
pub carries : (nodes : ℕ) (table : List ℕ) (h total share : ℕ → ℕ) → nodes ≤ max_nodes → length table ≡ table_size
    → sum table_size (at table) ≤ max_total
    → ((n : ℕ) → n < nodes → total n ≡ total_of nodes table n) → Allotted nodes h total share
    → Carries nodes table (due_of nodes h total share)
carries nodes table h total share h64 size small totals a =
    let due = due_of nodes h total share in
    let even : (n : ℕ) → n < nodes → sum nodes (due n) ≡ total_of nodes table n =
    λ n l. due-sum nodes h total share n l (a.enough n l) ∙ totals n l in
    record {
      adds_up = even;
      accepted = acceptable nodes table due h64 small;
      few = λ n. moves-few nodes (λ k. held table k n) (due n);
      apart = cell_apart nodes table due h64 even size small;
      within = not-refused nodes table due h64 even size small;
      reached = due-reached nodes table due h64 even size small;
    }

-- the same for the array of all totals
pub carries_totals : (nodes : ℕ) (table totals : List ℕ) (h share : ℕ → ℕ) → nodes ≤ max_nodes → length table ≡ table_size
    → sum table_size (at table) ≤ max_total
    → totals ≡ totals_of nodes table → Allotted nodes h (at totals) share → Carries nodes table (due_of nodes h (at totals) share)
carries_totals nodes table totals h share h64 size small e =
    carries nodes table h (at totals) share h64 size small
    (λ n l. ap (λ (xs : List ℕ). at xs n) e ∙ tabulate-at nodes (total_of nodes table) n l)
