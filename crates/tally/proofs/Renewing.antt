-- Leasts that are renewed up a tree are the leasts. While the way goes up, every node but the one that is next has the least that its
-- helpers give it; at the end every node has, and the equations of a tree have one solution. Assumes nothing.
use mathlib.Core.Path.{◌≡◌, refl, sym, ap, ap₂, ◌∙◌}
use mathlib.Core.Logic.{◌≢◌}
use mathlib.Core.Bool.{true}
use mathlib.Core.List.{List}
use Prim.Native.Nat.{ℕ, zero, suc, ◌+◌, ◌-◌, ◌≤◌, ◌<◌}
use native.Mathlib.Decide.{ℕ_discrete, dec_lt}
use native.Mathlib.Omega.{arith}
use borrow.Author.Tests.{eq-eqb, ne_eqb}
use lib.ListN.{length, set, length-set}
use lib.Seq.{get_or-set_same, get_or-set_other, ext_get_or}
use Rattle.arrays.specs.Arrays.{at, tabulate}
use Rattle.arrays.proofs.Tabulate.{tabulate-at, tabulate-behind, length-tabulate}
use Rattle.plan.specs.Tree.{walk, Tree}
use Rattle.tree.specs.Family.{helps, over_helpers}
use Rattle.tree.specs.Least.{least}
use Rattle.tree.proofs.Families.{helps_of, helps-ne, helpers_eq}
use Rattle.tree.proofs.Weighing.{least-is, least_unique}
use Rattle.tally.specs.Layout.{total_at, least_at, laid}
use Rattle.tally.specs.Renew.{least_from, renewed}
use Rattle.tally.proofs.Laid.{Rows, laid-length, laid-total, laid-least, laid-count}

module _ (nodes : ℕ) (h : ℕ → ℕ) (limit : ℕ) where
  -- the place of no least
  abbrev Elsewhere : ℕ → Type 0
  Elsewhere i = (k : ℕ) → k < nodes → i ≢ 64 + k

  -- of the cells nothing has changed but leasts, and every node but n has the least that its helpers give it
  record SettledBut (n : ℕ) (before cells : List ℕ) : Type 0 where
    long : length cells ≡ length before
    kept : (i : ℕ) → Elsewhere i → at cells i ≡ at before i
    other : (k : ℕ) → k < nodes → k ≢ n → least_at cells k ≡ least_from nodes h limit cells k

  -- and every node has
  record Settled (before cells : List ℕ) : Type 0 where
    long : length cells ≡ length before
    kept : (i : ℕ) → Elsewhere i → at cells i ≡ at before i
    each : (k : ℕ) → k < nodes → least_at cells k ≡ least_from nodes h limit cells k

  -- what is noted of a node is seen by the node that it helps alone
  from-same : (cells : List ℕ) (n v k : ℕ) → k < 64 → (helps h k n ≡ true → ⊥)
      → least_from nodes h limit (set cells (64 + n) v) k ≡ least_from nodes h limit cells k
  from-same cells n v k b no_helper =
      ap₂ ◌-◌ (get_or-set_other cells (64 + n) k v 0 (λ q. omega arith))
      (helpers_eq nodes h k (λ j. limit - least_at (set cells (64 + n) v) j) (λ j. limit - least_at cells j)
      (λ j l e.
      let d : j ≢ n = λ q. no_helper (rw q at e) in
      ap (λ (x : ℕ). limit - x) (get_or-set_other cells (64 + n) (64 + j) v 0 (λ q. d (omega arith)))))

  module _ (few : nodes ≤ 64) {before : List ℕ} (room : 128 ≤ length before) (n : ℕ) (l : n < nodes) (cells : List ℕ)
      (b : SettledBut n before cells) where
    abbrev new : ℕ
    new = least_from nodes h limit cells n

    -- the least of n stays as it was
    settled_same : new ≡ least_at cells n → Settled before cells
    settled_same e = record {
      long = b.long;
      kept = b.kept;
      each = λ k lk. elim (ℕ_discrete k n) [
        | yes q ↦ rw q (sym e)
        | no d ↦ b.other k lk d
      ];
    }

    abbrev after : List ℕ
    after = set cells (64 + n) new

    after-long : length after ≡ length before
    after-long = length-set cells (64 + n) new ∙ b.long

    after_kept : (i : ℕ) → Elsewhere i → at after i ≡ at before i
    after_kept i e = get_or-set_other cells (64 + n) i new 0 (e n l) ∙ b.kept i e

    -- the least of n is noted: every node that n does not help has the least that its helpers give it, n among them
    after-other : (k : ℕ) → k < nodes → (helps h k n ≡ true → ⊥) → least_at after k ≡ least_from nodes h limit after k
    after-other k lk f = elim (ℕ_discrete k n) [
      | yes q ↦
          rw q
          (get_or-set_same cells (64 + n) new 0 (omega (arith, b.long))
          ∙ sym (from-same cells n new n (omega arith) (λ y. helps-ne h n n y refl)))
      | no d ↦
          get_or-set_other cells (64 + n) (64 + k) new 0 (λ q. d (omega arith))
          ∙ b.other k lk d
          ∙ sym (from-same cells n new k (omega arith) f)
    ]

    -- a root helps nobody
    settled_root : h n ≡ n → Settled before after
    settled_root q =
        record {
          long = after-long;
          kept = after_kept;
          each = λ k lk. after-other k lk (λ y. helps-ne h k n y (sym q ∙ helps_of h k n y));
        }

    settled_but : SettledBut (h n) before after
    settled_but =
        record { long = after-long; kept = after_kept; other = λ k lk d. after-other k lk (λ y. d (sym (helps_of h k n y))) }

  module _ (few : nodes ≤ 64) {r : ℕ} (t : Tree nodes h r) {before : List ℕ} (room : 128 ≤ length before) where
    -- the way up comes to the root within so many steps
    settles : (steps n : ℕ) → n < nodes → walk h steps n ≡ r → (cells : List ℕ) → SettledBut n before cells
        → Settled before (renewed nodes h limit (suc steps) n cells)
    unfolding renewed walk
    settles zero n l w cells b = elim (ℕ_discrete (new few room n l cells b) (least_at cells n)) [
      | yes e ↦ rw (eq-eqb (new few room n l cells b) (least_at cells n) e) (settled_same few room n l cells b e)
      | no d ↦
          let q : h n ≡ n = ap h w ∙ t.own ∙ sym w in
          rw (ne_eqb (new few room n l cells b) (least_at cells n) d, eq-eqb (h n) n q) (settled_root few room n l cells b q)
    ]
    settles (suc steps) n l w cells b = elim (ℕ_discrete (new few room n l cells b) (least_at cells n)) [
      | yes e ↦ rw (eq-eqb (new few room n l cells b) (least_at cells n) e) (settled_same few room n l cells b e)
      | no d ↦ elim (ℕ_discrete (h n) n) [
        | yes q ↦ rw (ne_eqb (new few room n l cells b) (least_at cells n) d, eq-eqb (h n) n q) (settled_root few room n l cells b q)
        | no c ↦
            rw (ne_eqb (new few room n l cells b) (least_at cells n) d, ne_eqb (h n) n c)
            (settles steps (h n) (t.inside n l) w (after few room n l cells b) (settled_but few room n l cells b))
      ]
    ]

-- ---- the same, turn by turn: where a way up begins with n, for which a least is worked out

module _ (nodes : ℕ) (h : ℕ → ℕ) (limit : ℕ) (n : ℕ) (cells : List ℕ) where
  pub renewed-none : renewed nodes h limit 0 n cells ≡ cells
  unfolding renewed
  renewed-none = refl

  module _ (more : ℕ) {v : ℕ} (is : v ≡ least_from nodes h limit cells n) where
    pub renewed-same : v ≡ least_at cells n → renewed nodes h limit (suc more) n cells ≡ cells
    unfolding renewed
    renewed-same e = rw (← is, eq-eqb v (least_at cells n) e)

    pub renewed-root : v ≢ least_at cells n → h n ≡ n → renewed nodes h limit (suc more) n cells ≡ set cells (64 + n) v
    unfolding renewed
    renewed-root d q = rw (← is, ne_eqb v (least_at cells n) d, eq-eqb (h n) n q)

    pub renewed_up : v ≢ least_at cells n → h n ≢ n
        → renewed nodes h limit (suc more) n cells ≡ renewed nodes h limit more (h n) (set cells (64 + n) v)
    unfolding renewed
    renewed_up d q = rw (← is, ne_eqb v (least_at cells n) d, ne_eqb (h n) n q)

-- ---- the cells of a tally

module _ (nodes : ℕ) (h : ℕ → ℕ) (limit : ℕ) (few : nodes ≤ 64) {r : ℕ} (t : Tree nodes h r) (totals : List ℕ) (lt : length totals ≡ 64)
    (counts : List ℕ) where
  -- the leasts of a tree with some totals
  abbrev leasts : (ℕ → ℕ) → List ℕ
  leasts total = tabulate nodes (least nodes h total limit)

  rows : (total : ℕ → ℕ) → Rows totals (leasts total)
  rows total = record { totals_long = lt; leasts_long = length-tabulate nodes (least nodes h total limit) few }

  -- cells in which the leasts of all nodes are right, and nothing else has changed
  module _ (old : ℕ → ℕ) (cells : List ℕ) (x : Settled nodes h limit (laid totals (leasts old) counts) cells) where
    total-same : (k : ℕ) → k < 64 → total_at cells k ≡ at totals k
    total-same k l = x.kept k (λ j b q. omega arith) ∙ laid-total (rows old) counts k l

    solved : (k : ℕ) → k < nodes → least_at cells k ≡ least nodes h (at totals) limit k
    solved =
        least_unique nodes h (at totals) limit r t (least_at cells)
        (λ k l. x.each k l ∙ ap (λ (y : ℕ). y - over_helpers nodes h k (λ j. limit - least_at cells j)) (total-same k (omega arith)))

    least-same : (k : ℕ) → k < 64 → least_at cells k ≡ at (leasts (at totals)) k
    least-same k l = elim (dec_lt k nodes) [
      | yes b ↦ solved k b ∙ sym (tabulate-at nodes (least nodes h (at totals) limit) k b)
      | no d ↦
          x.kept (64 + k) (λ j b q. d (omega arith))
          ∙ laid-least (rows old) counts k l
          ∙ tabulate-behind nodes (least nodes h old limit) k (omega arith)
          ∙ sym (tabulate-behind nodes (least nodes h (at totals) limit) k (omega arith))
    ]

    count_same : (c : ℕ) → at cells (128 + c) ≡ at counts c
    count_same c = x.kept (128 + c) (λ j b q. omega arith) ∙ laid-count (rows old) counts c

    cell_same : (i : ℕ) → at cells i ≡ at (laid totals (leasts (at totals)) counts) i
    cell_same i = elim (dec_lt i 64) [
      | yes l ↦ total-same i l ∙ sym (laid-total (rows (at totals)) counts i l)
      | no d ↦ elim (dec_lt i 128) [
        | yes l ↦
            let e : 64 + (i - 64) ≡ i = omega arith in
            rw e at (least-same (i - 64) (omega arith) ∙ sym (laid-least (rows (at totals)) counts (i - 64) (omega arith)))
        | no f ↦
            let e : 128 + (i - 128) ≡ i = omega arith in
            rw e at (count_same (i - 128) ∙ sym (laid-count (rows (at totals)) counts (i - 128)))
      ]
    ]

    settled_laid : cells ≡ laid totals (leasts (at totals)) counts
    settled_laid =
        ext_get_or 0 cells (laid totals (leasts (at totals)) counts)
        (x.long ∙ laid-length (rows old) counts ∙ sym (laid-length (rows (at totals)) counts)) (λ i l. cell_same i)

  -- THEOREM. Where one total of a tree has changed, the leasts that were noted before and are renewed from its node up are the leasts.
  pub renewed-leasts : (old : ℕ → ℕ) (n : ℕ) → n < nodes → ((k : ℕ) → k < nodes → k ≢ n → old k ≡ at totals k)
      → renewed nodes h limit (suc nodes) n (laid totals (leasts old) counts) ≡ laid totals (leasts (at totals)) counts
  renewed-leasts old n l same =
      settled_laid old _
      (settles nodes h limit few t (omega (arith, laid-length (rows old) counts)) nodes n l (t.reach n l) cells record {
        long = refl;
        kept = λ i e. refl;
        other = λ k lk d.
            noted k lk
            ∙ least-is nodes h old limit r t k
            ∙ ap₂ ◌-◌ (same k lk d ∙ sym (laid-total (rows old) counts k (omega arith)))
            (helpers_eq nodes h k (λ j. limit - least nodes h old limit j) (λ j. limit - least_at cells j)
            (λ j lj e. ap (λ (x : ℕ). limit - x) (sym (noted j lj))));
      })
    where
      cells : List ℕ
      cells = laid totals (leasts old) counts

      noted : (k : ℕ) → k < nodes → least_at cells k ≡ least nodes h old limit k
      noted k lk = laid-least (rows old) counts k (omega arith) ∙ tabulate-at nodes (least nodes h old limit) k lk
