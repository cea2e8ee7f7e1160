-- What any accepted moves keep that are within what the cells hold: each subdomain's total, the sum of the table, and zeros where no
-- node is named. Any set of cells that each move takes as much from as it brings to keeps its sum. Assumes nothing.
use mathlib.Core.Path.{◌≡◌, refl, sym, ap, ◌∙◌}
use mathlib.Core.Bool.{Bool, true, false, true≢false}
use mathlib.Core.List.{List, [], ◌∷◌}
use Prim.Native.Nat.{ℕ, suc, ◌+◌, ◌*◌, ◌≤◌, ◌<◌}
use native.Mathlib.Decide.{ℕ_discrete, dec_lt}
use native.Mathlib.Omega.{arith}
use borrow.Author.Tests.{eq-eqb, ne_eqb}
use lib.Dec.{eqb}
use lib.ListN.{length, get_or, get_or-eq_default}
use Rattle.fold.specs.Sum.{only, sum}
use Rattle.fold.proofs.Tests.{only-is, only-not}
use Rattle.fold.proofs.Sums.{sum-add, sum-eq, sum_zeros, sum-only}
use Rattle.fold.proofs.Lists.{rising-at}
use Rattle.limit.specs.Limit.{max_nodes, table_size}
use Rattle.sheet.specs.Sheet.{cell_fine, cell}
use Rattle.sheet.proofs.Laws.{cell_of}
use Rattle.sheet.proofs.RoundTrip.{Writable}
use Rattle.arrays.specs.Arrays.{at}
use Rattle.moves.specs.Moves.{subdomain, sender, receiver, route_fine}
use Rattle.moves.proofs.Laws.{route-is}
use Rattle.transfer.specs.Apply.{from_cell, into_cell, moved, sends, receives, sends_within, carried}
use Rattle.transfer.proofs.Acceptable.{Acceptable}
use Rattle.transfer.proofs.Ends.{moved_absent}
use Rattle.transfer.proofs.Applied.{from-below, into-below, carried-at, length-carried, within-at}
use Rattle.sheet.specs.Totals.{total_of}

-- each route is fine
abbrev pub RoutesFine : ℕ → List ℕ → Type 0
RoutesFine nodes routes = (i : ℕ) → i < length routes → route_fine nodes (get_or routes i 0) ≡ true

module _ (nodes : ℕ) (h64 : nodes ≤ max_nodes) where
  -- ---- no move leads from or to a cell that names no two nodes

  module _ (routes counts : List ℕ) (fine : RoutesFine nodes routes) (c : ℕ) (out : cell_fine nodes c ≡ false) where
    pub sends-outside : sends routes counts c ≡ 0
    sends-outside =
        moved_absent from_cell routes counts c (λ i l e.
        let r = get_or routes i 0 in
        let f = route-is nodes r (fine i l) in
        true≢false (sym (cell_of nodes c (omega (arith, e, f.sender_below, f.subdomain_below))
        (omega (arith, e, f.sender_below, f.subdomain_below))) ∙ out))

    pub receives-outside : receives routes counts c ≡ 0
    receives-outside =
        moved_absent into_cell routes counts c (λ i l e.
        let r = get_or routes i 0 in
        let f = route-is nodes r (fine i l) in
        true≢false (sym (cell_of nodes c (omega (arith, e, f.receiver_below, f.subdomain_below))
        (omega (arith, e, f.receiver_below, f.subdomain_below))) ∙ out))

-- ---- cells that a route takes as much from as it brings to

module _ (m : ℕ) (cells : ℕ → ℕ) where
  -- what is at cell o, added up over these cells
  abbrev over : ℕ → ℕ → ℕ
  over o count = sum m (λ k. only (eqb o (cells k)) count)

  abbrev Even : List ℕ → Type 0
  Even routes =
      (i : ℕ) → i < length routes → (count : ℕ) → over (from_cell (get_or routes i 0)) count ≡ over (into_cell (get_or routes i 0)) count

  even_sums : (routes counts : List ℕ) → Even routes
      → sum m (λ k. sends routes counts (cells k)) ≡ sum m (λ k. receives routes counts (cells k))
  unfolding moved
  even_sums [] counts even = refl
  even_sums (r ∷ rs) [] even = refl
  even_sums (r ∷ rs) (count ∷ counts) even =
      omega (
        arith,
        sum-add m (λ k. only (eqb (from_cell r) (cells k)) count) (λ k. sends rs counts (cells k)),
        sum-add m (λ k. only (eqb (into_cell r) (cells k)) count) (λ k. receives rs counts (cells k)),
        even 0 (omega arith) count,
        even_sums rs counts (λ i l. even (suc i) (omega arith)),
      )

  -- what they hold after the moves and what they send is what they held and what they receive
  pub cells-after : (table routes counts : List ℕ) → ((k : ℕ) → k < m → cells k < length table) → sends_within table routes counts ≡ true
      → sum m (λ k. at (carried table routes counts) (cells k)) + sum m (λ k. sends routes counts (cells k))
      ≡ sum m (λ k. at table (cells k)) + sum m (λ k. receives routes counts (cells k))
  cells-after table routes counts inside within =
      let next : ℕ → ℕ = λ k. at (carried table routes counts) (cells k) in
      let old : ℕ → ℕ = λ k. at table (cells k) in
      let out : ℕ → ℕ = λ k. sends routes counts (cells k) in
      let into : ℕ → ℕ = λ k. receives routes counts (cells k) in
      sym (sum-add m next out)
      ∙ sum-eq m (λ k. next k + out k) (λ k. old k + into k) (λ k l. omega (
        arith,
        carried-at routes counts table (cells k) (inside k l),
        within-at table routes counts within (cells k) (inside k l),
      ))
      ∙ sum-add m old into

  -- then they keep their sum
  even-kept : (table routes counts : List ℕ) → ((k : ℕ) → k < m → cells k < length table) → Even routes
      → sends_within table routes counts ≡ true
      → sum m (λ k. at (carried table routes counts) (cells k)) ≡ sum m (λ k. at table (cells k))
  even-kept table routes counts inside even within =
      omega (arith, cells-after table routes counts inside within, even_sums routes counts even)

-- ---- all cells, the cells of one subdomain, and those of one holder

eqb_same : (a b c d : ℕ) → (a ≡ b → c ≡ d) → (c ≡ d → a ≡ b) → eqb a b ≡ eqb c d
eqb_same a b c d f g = elim (ℕ_discrete a b) [
  | yes e ↦ eq-eqb a b e ∙ sym (eq-eqb c d (f e))
  | no q ↦ ne_eqb a b q ∙ sym (ne_eqb c d (λ z. q (g z)))
]

-- cell o is the one of them with index j, and counts once
once : (m : ℕ) (cells : ℕ → ℕ) (o j count : ℕ) → j < m → ((k : ℕ) → o ≡ cells k → k ≡ j) → ((k : ℕ) → k ≡ j → o ≡ cells k)
    → over m cells o count ≡ count
once m cells o j count h f g =
    sum-eq m (λ k. only (eqb o (cells k)) count) (λ k. only (eqb k j) count)
    (λ k l. ap (λ (b : Bool). only b count) (eqb_same o (cells k) k j (f k) (g k)))
    ∙ sum-only m (λ k. count) j h

-- of all cells below m, cell o is one
pub one_of : (m o count : ℕ) → o < m → over m (λ c. c) o count ≡ count
one_of m o count h = once m (λ c. c) o o count h (λ k e. sym e) (λ k e. sym e)

-- cell o counts where p is q: then it is the one with index j, and otherwise it is none of them
one_where : (m : ℕ) (cells : ℕ → ℕ) (o j count p q : ℕ) → j < m → (p ≡ q → (k : ℕ) → o ≡ cells k → k ≡ j)
    → (p ≡ q → (k : ℕ) → k ≡ j → o ≡ cells k) → ((k : ℕ) → k < m → o ≡ cells k → p ≡ q) → over m cells o count ≡ only (eqb p q) count
one_where m cells o j count p q h f g none = elim (ℕ_discrete p q) [
  | yes e ↦ once m cells o j count h (f e) (g e) ∙ sym (only-is (eqb p q) count (eq-eqb p q e))
  | no d ↦
      sum_zeros m (λ k. only (eqb o (cells k)) count)
      (λ k l. only-not (eqb o (cells k)) count (ne_eqb o (cells k) (λ z. d (none k l z))))
      ∙ sym (only-not (eqb p q) count (ne_eqb p q d))
]

-- the cell of holder o and subdomain d counts in its own subdomain
column-one : (nodes o d n count : ℕ) → o < nodes → d < 64 → n < 64 → over nodes (λ k. cell k n) (cell o d) count ≡ only (eqb d n) count
column-one nodes o d n count ho hd hn =
    one_where nodes (λ k. cell k n) (cell o d) o count d n ho (λ e k z. omega arith) (λ e k z. omega arith) (λ k l z. omega arith)

-- and at its own holder
pub row_one : (nodes o d k count : ℕ) → nodes ≤ 64 → d < nodes → over nodes (λ n. cell k n) (cell o d) count ≡ only (eqb o k) count
row_one nodes o d k count h64 hd =
    one_where nodes (λ n. cell k n) (cell o d) d count o k hd (λ e n z. omega arith) (λ e n z. omega arith) (λ n l z. omega arith)

-- moves that no cell is short of keep the sum of the table
pub sum_kept : (table routes counts : List ℕ) → length table ≡ table_size
    → ((i : ℕ) → i < length routes → get_or routes i 0 < 64 * table_size) → sends_within table routes counts ≡ true
    → sum table_size (at (carried table routes counts)) ≡ sum table_size (at table)
sum_kept table routes counts size below within =
    even-kept table_size (λ c. c) table routes counts (λ c l. omega (arith, size))
    (λ i l count.
    let r = get_or routes i 0 in
    one_of table_size (from_cell r) count (from-below r (below i l))
    ∙ sym (one_of table_size (into_cell r) count (into-below r (below i l)))) within

-- ---- accepted moves

module _ (nodes : ℕ) (h64 : nodes ≤ max_nodes) (routes counts : List ℕ) (a : Acceptable nodes routes counts) where
  pub acceptable_fine : RoutesFine nodes routes
  acceptable_fine = rising-at (route_fine nodes) 0 routes a.routes_fine

  pub acceptable_below : (i : ℕ) → i < length routes → get_or routes i 0 < 64 * table_size
  acceptable_below i l = omega (arith, (route-is nodes (get_or routes i 0) (acceptable_fine i l)).subdomain_below)

-- THEOREM. Accepted moves that are not refused with 42 keep each subdomain's total.
pub total_kept : (nodes : ℕ) (table routes counts : List ℕ) → nodes ≤ max_nodes → length table ≡ table_size → Acceptable nodes routes counts
    → sends_within table routes counts ≡ true → (n : ℕ) → n < nodes → total_of nodes (carried table routes counts) n ≡ total_of nodes table n
total_kept nodes table routes counts h64 size a w n hn =
    even-kept nodes (λ k. cell k n) table routes counts (λ k l. omega (arith, size))
    (λ i l count.
    let r = get_or routes i 0 in
    let f = route-is nodes r (acceptable_fine nodes h64 routes counts a i l) in
    let d : subdomain r < 64 = omega (arith, f.subdomain_below) in
    column-one nodes (sender r) (subdomain r) n count f.sender_below d (omega arith)
    ∙ sym (column-one nodes (receiver r) (subdomain r) n count f.receiver_below d (omega arith))) w

-- THEOREM. The table after them can be written as a sheet again: it keeps its sum, so that no count wraps, and names no other node.
pub writable-kept : (nodes t : ℕ) (table routes counts : List ℕ) → Writable nodes t table → Acceptable nodes routes counts
    → sends_within table routes counts ≡ true → Writable nodes t (carried table routes counts)
writable-kept nodes t table routes counts v a w =
    record {
      n_low = v.n_low;
      n_high = v.n_high;
      t_low = v.t_low;
      t_high = v.t_high;
      size = size;
      outside = λ c out. elim (dec_lt c table_size) [
        | yes l ↦
            let lt : c < length table = omega (arith, v.size) in
            omega
            (arith, carried-at routes counts table c lt, v.outside c out, receives-outside nodes v.n_high routes counts fine c out)
        | no d ↦ get_or-eq_default (carried table routes counts) 0 (omega (arith, size, d))
      ];
      within =
          rw (sum_kept table routes counts v.size (acceptable_below nodes v.n_high routes counts a) w) v.within;
    }
  where
    fine : RoutesFine nodes routes
    fine = acceptable_fine nodes v.n_high routes counts a

    size : length (carried table routes counts) ≡ table_size
    size = length-carried routes counts table ∙ v.size
