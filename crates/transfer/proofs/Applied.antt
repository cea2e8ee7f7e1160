-- Moves applied to a table: the moves from an entry on, each cell of the table that follows, the test of the sends, and one cell made
-- smaller or larger. Assumes nothing.
use mathlib.Core.Path.{◌≡◌, refl, sym, ap, ◌∙◌}
use mathlib.Core.Logic.{◌⊎◌, inl, inr}
use mathlib.Core.Bool.{true, false}
use mathlib.Core.List.{List, [], ◌∷◌}
use Prim.Native.Nat.{ℕ, zero, suc, ◌+◌, ◌-◌, ◌*◌, ◌≤◌, ◌<◌}
use native.Mathlib.Nat.{add-zero}
use native.Mathlib.Decide.{ℕ_discrete}
use native.Mathlib.Omega.{arith}
use borrow.Author.Tests.{le-leb, leb-true, eq-eqb, ne_eqb}
use lib.Dec.{leb, eqb}
use lib.ListN.{length, get_or, set, drop}
use lib.Seq.{get_or-set_same, get_or-set_other, ext_get_or}
use Rattle.limit.specs.Limit.{table_size}
use Rattle.fold.specs.Sum.{only}
use Rattle.fold.proofs.Tests.{either, and_left, and_right, and_both, only-is, only-not}
use Rattle.words.specs.Words.{words}
use Rattle.words.proofs.Words.{part_more, part_end}
use Rattle.arrays.specs.Arrays.{at}
use Rattle.moves.specs.Moves.{routes_of, counts_of}
use Rattle.transfer.specs.Apply.{from_cell, into_cell, moved, sends, receives, within_from, sends_within, each_from, less_sends, carried}
use Rattle.transfer.specs.Inner.{Readable}
use Rattle.transfer.proofs.Ends.{moved_none, moved-one}

-- ---- cells

pub from-below : (route : ℕ) → route < 64 * table_size → from_cell route < table_size
from-below route h = omega arith

pub into-below : (route : ℕ) → route < 64 * table_size → into_cell route < table_size
into-below route h = omega arith

-- ---- the entry that was read: the moves left begin with it

pub record Entry (moves : List ℕ) (e i route count : ℕ) : Type 0 where
  pub below : route < 64 * table_size
  pub routes : drop i (routes_of moves e) ≡ route ∷ drop (i + 1) (routes_of moves e)
  pub counts : drop i (counts_of moves e) ≡ count ∷ drop (i + 1) (counts_of moves e)

pub entry_read : (moves : List ℕ) (e i : ℕ) → Readable moves e → i < e → (route count : ℕ)
    → route ≡ get_or (words moves) (2 + i) 0 → count ≡ get_or (words moves) (2 + e + i) 0 → Entry moves e i route count
entry_read moves e i readable h route count is-route is-count =
    rw (is-route, is-count)
    (record {
      below = readable.below i h;
      routes = part_more moves 2 e i h (omega (arith, readable.long));
      counts = part_more moves (2 + e) e i h (omega (arith, readable.long));
    })

-- ---- the counts of the moves from entry i on that end at cell c, added up

module _ (end : ℕ → ℕ) (moves : List ℕ) (e i : ℕ) where
  abbrev pub moved_from : ℕ → ℕ
  moved_from c = moved end (drop i (routes_of moves e)) (drop i (counts_of moves e)) c

  pub moved-from-none : e ≤ i → (c : ℕ) → moved_from c ≡ 0
  moved-from-none h c = rw (part_end moves 2 e i h, part_end moves (2 + e) e i h) (moved_none end [] c)

pub moved-from_more : (end : ℕ → ℕ) (moves : List ℕ) (e i route count : ℕ) → Entry moves e i route count → (c : ℕ)
    → moved_from end moves e i c ≡ only (eqb (end route) c) count + moved_from end moves e (i + 1) c
moved-from_more end moves e i route count entry c =
    rw (entry.routes, entry.counts) (moved-one end route count (drop (i + 1) (routes_of moves e)) (drop (i + 1) (counts_of moves e)) c)

pub moved-from-here : (end : ℕ → ℕ) (moves : List ℕ) (e i route count : ℕ) → Entry moves e i route count
    → moved_from end moves e i (end route) ≡ count + moved_from end moves e (i + 1) (end route)
moved-from-here end moves e i route count entry =
    let c = end route in
    omega (arith, moved-from_more end moves e i route count entry c, only-is (eqb c c) count (eq-eqb c c refl))

-- ---- each cell of a table

module _ (f : ℕ → ℕ → ℕ) where
  from_at : (c : ℕ) (table : List ℕ) (i : ℕ) → i < length table → get_or (each_from f c table) i 0 ≡ f (c + i) (get_or table i 0)
  unfolding each_from
  from_at c [] i h = absurd (omega arith)
  from_at c (x ∷ table) zero h = rw (add-zero c)
  from_at c (x ∷ table) (suc i) h =
      let e : c + suc i ≡ c + 1 + i = omega arith in
      rw e (from_at (c + 1) table i (omega arith))

  length-each : (c : ℕ) (table : List ℕ) → length (each_from f c table) ≡ length table
  unfolding each_from
  length-each c [] = refl
  length-each c (x ∷ table) = ap suc (length-each (c + 1) table)

  each_at : (table : List ℕ) (c : ℕ) → c < length table → at (each_from f 0 table) c ≡ f c (at table c)
  each_at table c h =
      let e : 0 + c ≡ c = omega arith in
      rw e at (from_at 0 table c h)

  -- a table is known by its cells
  pub each-is : (old table : List ℕ) → length table ≡ length old → ((c : ℕ) → c < length old → at table c ≡ f c (at old c))
      → table ≡ each_from f 0 old
  each-is old table size cells =
      ext_get_or 0 table (each_from f 0 old) (size ∙ sym (length-each 0 old))
      (λ c l.
      let b : c < length old = omega arith in
      cells c b ∙ sym (each_at old c b))

-- ---- the table that follows

module _ (routes counts table : List ℕ) where
  abbrev less : ℕ → ℕ → ℕ
  less c x = x - sends routes counts c

  abbrev plus : ℕ → ℕ → ℕ
  plus c x = x + receives routes counts c

  pub length-less : length (less_sends table routes counts) ≡ length table
  length-less = length-each less 0 table

  pub length-carried : length (carried table routes counts) ≡ length table
  length-carried = length-each plus 0 (less_sends table routes counts) ∙ length-less

  module _ (c : ℕ) (h : c < length table) where
    pub carried_from : at (carried table routes counts) c ≡ at (less_sends table routes counts) c + receives routes counts c
    carried_from = each_at plus (less_sends table routes counts) c (omega (arith, length-less))

    pub carried-at : at (carried table routes counts) c ≡ at table c - sends routes counts c + receives routes counts c
    carried-at = rw (← each_at less table c h) carried_from

-- ---- the test against the table before any move

module _ (routes counts : List ℕ) where
  from-within : (c : ℕ) (table : List ℕ) → within_from routes counts c table ≡ true → (i : ℕ) → i < length table
      → sends routes counts (c + i) ≤ get_or table i 0
  unfolding within_from
  from-within c [] e i h = absurd (omega arith)
  from-within c (x ∷ table) e zero h =
      rw (add-zero c) (leb-true (sends routes counts c) x
      (and_left (leb (sends routes counts c) x) (within_from routes counts (c + 1) table) e))
  from-within c (x ∷ table) e (suc i) h =
      let q : c + suc i ≡ c + 1 + i = omega arith in
      rw q (from-within (c + 1) table (and_right (leb (sends routes counts c) x) (within_from routes counts (c + 1) table) e) i
      (omega arith))

  within-from : (c : ℕ) (table : List ℕ) → ((i : ℕ) → i < length table → sends routes counts (c + i) ≤ get_or table i 0)
      → within_from routes counts c table ≡ true
  unfolding within_from
  within-from c [] h = refl
  within-from c (x ∷ table) h =
      and_both (leb (sends routes counts c) x) (within_from routes counts (c + 1) table)
      (le-leb (sends routes counts c) x (rw (add-zero c) at (h 0 (omega arith))))
      (within-from (c + 1) table (λ i l.
      let q : c + suc i ≡ c + 1 + i = omega arith in
      rw q at (h (suc i) (omega arith))))

module _ (table routes counts : List ℕ) where
  pub within-at : sends_within table routes counts ≡ true → (c : ℕ) → c < length table → sends routes counts c ≤ at table c
  within-at e c h =
      let q : 0 + c ≡ c = omega arith in
      rw q at (from-within routes counts 0 table e c h)

  pub within_of : ((c : ℕ) → c < length table → sends routes counts c ≤ at table c) → sends_within table routes counts ≡ true
  within_of h =
      within-from routes counts 0 table (λ i l.
      let q : 0 + i ≡ i = omega arith in
      rw q (h i l))

  -- one cell that sends more
  pub within-false : (c : ℕ) → c < length table → at table c < sends routes counts c → sends_within table routes counts ≡ false
  within-false c h l = split (either (sends_within table routes counts))
    where
      split : (sends_within table routes counts ≡ true) ⊎ (sends_within table routes counts ≡ false) → sends_within table routes counts ≡ false
      split (inl e) = absurd (omega (arith, within-at e c h))
      split (inr e) = e

-- ---- one move

module _ (xs : List ℕ) (i k : ℕ) (l : i < length xs) (c : ℕ) where
  pub less-at : k ≤ at xs i → at (set xs i (at xs i - k)) c + only (eqb i c) k ≡ at xs c
  less-at h = elim (ℕ_discrete i c) [
    | yes e ↦ rw (← e) (omega (arith, get_or-set_same xs i (at xs i - k) 0 l, only-is (eqb i i) k (eq-eqb i i refl)))
    | no d ↦ omega (arith, get_or-set_other xs i c (at xs i - k) 0 (λ z. d (sym z)), only-not (eqb i c) k (ne_eqb i c d))
  ]

  pub plus-at : at (set xs i (at xs i + k)) c ≡ at xs c + only (eqb i c) k
  plus-at = elim (ℕ_discrete i c) [
    | yes e ↦ rw (← e) (omega (arith, get_or-set_same xs i (at xs i + k) 0 l, only-is (eqb i i) k (eq-eqb i i refl)))
    | no d ↦ omega (arith, get_or-set_other xs i c (at xs i + k) 0 (λ z. d (sym z)), only-not (eqb i c) k (ne_eqb i c d))
  ]
