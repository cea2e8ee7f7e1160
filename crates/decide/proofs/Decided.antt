-- What the three ways of a decision give: the plan can be written and read back, no owner's helpers are given more than there is, and
-- the plan is what document 01 says of its kind. Assumes nothing.
use mathlib.Core.Path.{◌≡◌, refl, sym, ap, ◌∙◌}
use mathlib.Core.Logic.{◌≢◌, ◌⊎◌, inl, inr}
use mathlib.Core.Bool.{Bool, true, false, cond, ◌&&◌, true≢false}
use mathlib.Core.List.{List}
use Prim.Native.Nat.{ℕ, ◌-◌, ◌*◌, ◌≤◌, ◌<◌}
use native.Mathlib.Omega.{arith}
use borrow.Author.Tests.{le-leb}
use lib.Dec.{leb}
use lib.ListN.{length, take, length-replicate}
use Rattle.fold.specs.Sum.{only, sum}
use Rattle.fold.proofs.Sums.{sum_zeros, sum_term}
use Rattle.fold.proofs.Tests.{either, and_left, and_right, all_of, only-max}
use Rattle.limit.specs.Limit.{max_nodes, max_tolerance, max_total, limit_of}
use Rattle.plan.specs.declared.Kind.{Kind}
use Rattle.plan.specs.Kinds.{kind_number}
use Rattle.plan.specs.Tree.{helpands_below, Tree}
use Rattle.plan.proofs.RoundTrip.{ReadBack, tree-read-written, roots-read-written}
use Rattle.sheet.specs.Table.{held}
use Rattle.tree.specs.Family.{helps, over_helpers}
use Rattle.tree.specs.Least.{least, holds}
use Rattle.tree.specs.Division.{WithinLimit, OnTarget, own_of}
use Rattle.arrays.specs.Arrays.{at}
use Rattle.tree.proofs.Families.{helpers_eq}
use Rattle.tree.proofs.Weighing.{least-is}
use Rattle.tree.proofs.Keeping.{holds_at}
use Rattle.shares.specs.Shares.{kept_share}
use Rattle.shares.specs.Hold.{OwnInPlace}
use Rattle.shares.specs.Levelled.{RestLevelled}
use Rattle.shares.proofs.KeptShares.{KeptWithin, table-shares, table-levelled, table_in_place}
use Rattle.rebuild.specs.Target.{target_of}
use Rattle.rebuild.proofs.TargetSums.{targets-within-limit, WithinTargets}
use Rattle.rebuild.proofs.Rebuilding.{NewTree, rebuilt-on-target}
use Rattle.decide.specs.declared.Decision.{Decision}
use Rattle.decide.specs.Decide.{primary_plan, leasts_of, kept_plan, rebuilt_plan, decided}
use Rattle.arrays.proofs.Padded.{zeros-at}
use Rattle.arrays.proofs.Tabulate.{tabulate-at, length-tabulate, take-at-tabulate}
use Rattle.sheet.specs.Totals.{total_of, totals_of}
use Rattle.tree.specs.Primary.{primary}

-- a sheet's table and totals with its limit, and an old tree or none
pub record Given (nodes p t : ℕ) (table totals : List ℕ) (tree : Bool) (old : List ℕ) : Type 0 where
  pub some : 1 ≤ nodes
  pub few : nodes ≤ max_nodes
  pub total : p ≤ max_total
  pub tolerance : t ≤ max_tolerance
  pub counted : totals ≡ totals_of nodes table
  pub adds : sum nodes (at totals) ≡ p
  pub long : length old ≡ 64
  pub below : helpands_below nodes (at old) ≡ true
  pub rooted : tree ≡ true → (r : ℕ) × Tree nodes (at old) r

-- ---- what is shown of each kind

-- of every plan: it is read back as what was written, and no owner's helpers are given more than there is
pub record Fine (nodes limit : ℕ) (totals : List ℕ) (d : Decision) : Type 0 where
  pub read_back : ReadBack nodes (kind_number d.kind) limit d.helpands d.shares
  pub inside : (k : ℕ) → k < nodes → at d.helpands k < nodes
  pub enough : (n : ℕ) → n < nodes → over_helpers nodes (at d.helpands) n (at d.shares) ≤ at totals n

-- kind 1 has the old helpands, and its shares are a division within the limit
pub record KeptFine (nodes limit : ℕ) (totals old : List ℕ) (d : Decision) : Type 0 where
  pub kind : kind_number d.kind ≡ 1
  pub helpands : d.helpands ≡ old
  pub within :
      let own = own_of nodes (at d.helpands) (at totals) (at d.shares) in
      WithinLimit nodes (at d.helpands) (at totals) limit own (at d.shares)

-- requests 2026-03 and 2026-07: the rest of each family is levelled, and helpers' own particles are in place; nothing stands behind the
-- shares of the nodes
pub record KeptFamilies (nodes limit : ℕ) (table totals old : List ℕ) (d : Decision) : Type 0 where
  pub levelled : RestLevelled nodes (at old) limit (at (leasts_of nodes old totals limit)) (at totals) (held table) (at d.shares)
  pub in_place : OwnInPlace nodes (at old) limit (at (leasts_of nodes old totals limit)) (at totals) (held table) (at d.shares)
  pub shares_end : at (take nodes d.shares) ≡ at d.shares

-- kind 2 has a tree, and its shares are a division with every load equal to the node's target
pub record RebuiltFine (nodes p : ℕ) (totals : List ℕ) (d : Decision) : Type 0 where
  pub kind : kind_number d.kind ≡ 2
  pub tree : (r : ℕ) × Tree nodes (at d.helpands) r
  pub on_target :
      let own = own_of nodes (at d.helpands) (at totals) (at d.shares) in
      OnTarget nodes (at d.helpands) (at totals) (target_of nodes p) own (at d.shares)

module _ (nodes p t : ℕ) (table totals : List ℕ) (tree : Bool) (old : List ℕ) (g : Given nodes p t table totals tree old) where
  abbrev limit : ℕ
  limit = limit_of p nodes t

  bounds : WithinTargets nodes p t
  bounds = targets-within-limit nodes p t g.some g.total g.tolerance

  totals_long : length totals ≡ 64
  totals_long = ap length g.counted ∙ length-tabulate nodes (total_of nodes table) g.few

  -- one node alone is always within the limit
  not-alone : primary nodes (at totals) limit ≡ false → nodes ≢ 1
  not-alone f e =
      true≢false
      (sym (all_of nodes (λ n. leb (at totals n) limit) (λ n l. le-leb (at totals n) limit (within n l)))
      ∙ f)
    where
      within : (n : ℕ) → n < nodes → at totals n ≤ limit
      within n l = omega (arith, sum_term nodes (at totals) n l, g.adds, bounds.room, ap (λ (m : ℕ). m * limit) e)

  -- ---- primary

  primary_fine : Fine nodes limit totals (primary_plan nodes)
  primary_fine =
      let own : (k : ℕ) → k < nodes → at (primary_plan nodes).helpands k ≡ k = λ k l. tabulate-at nodes (λ j. j) k l in
      record {
        read_back =
            roots-read-written nodes limit (primary_plan nodes).helpands (primary_plan nodes).shares g.few bounds.written
            (omega (arith, length-tabulate nodes (λ j. j) g.few, g.few)) (omega (arith, length-replicate {A = ℕ} 64 0, g.few))
            g.some own (λ k l. zeros-at 64 k);
        inside = λ k l. omega (arith, own k l);
        enough = λ n l.
            omega (
              arith,
              sum_zeros nodes (λ k. only (helps (at (primary_plan nodes).helpands) n k) (at (primary_plan nodes).shares k))
                  (λ k b. omega (
                    arith,
                    only-max (helps (at (primary_plan nodes).helpands) n k) (at (primary_plan nodes).shares k),
                    zeros-at 64 k,
                  )),
            );
      }

  -- ---- kept

  module _ (r : ℕ) (rooted : Tree nodes (at old) r) (h : holds nodes (at old) (at totals) limit ≡ true) where
    abbrev leasts : List ℕ
    leasts = leasts_of nodes old totals limit

    least_at : (k : ℕ) → k < nodes → at leasts k ≡ least nodes (at old) (at totals) limit k
    least_at k l = tabulate-at nodes (least nodes (at old) (at totals) limit) k l

    -- the array of leasts solves their equations, and none is above the limit
    leasts_are : (n : ℕ) → n < nodes → at leasts n ≡ at totals n - over_helpers nodes (at old) n (λ k. limit - at leasts k)
    leasts_are n l =
        least_at n l
        ∙ least-is nodes (at old) (at totals) limit r rooted n
        ∙ ap (λ (x : ℕ). at totals n - x)
        (helpers_eq nodes (at old) n (λ k. limit - least nodes (at old) (at totals) limit k) (λ k. limit - at leasts k)
        (λ k b y. ap (λ (x : ℕ). limit - x) (sym (least_at k b))))

    leasts-hold : (n : ℕ) → n < nodes → at leasts n ≤ limit
    leasts-hold n l = omega (arith, least_at n l, holds_at nodes (at old) (at totals) limit h n l)

    kept-shares : KeptWithin nodes (at old) limit (at leasts) (at totals) (held table) (at (kept_plan nodes limit table totals old).shares)
    kept-shares = table-shares nodes r limit old leasts totals table rooted g.counted leasts_are leasts-hold

    kept_fine : primary nodes (at totals) limit ≡ false → Fine nodes limit totals (kept_plan nodes limit table totals old)
    kept_fine f =
        record {
          read_back =
              let share = kept_share nodes (at old) limit (at leasts) (at totals) (held table) in
              tree-read-written nodes limit old (kept_plan nodes limit table totals old).shares g.few bounds.written
              (omega (arith, g.long, g.few)) (omega (arith, length-tabulate nodes share g.few, g.few))
              1 r (λ z. omega arith) (omega arith) (not-alone f) rooted kept-shares.most
              (kept-shares.root r rooted.root rooted.own);
          inside = rooted.inside;
          enough = kept-shares.enough;
        }

    kept_families : KeptFamilies nodes limit table totals old (kept_plan nodes limit table totals old)
    kept_families =
        record {
          levelled = table-levelled nodes r limit old leasts totals table rooted g.counted leasts_are leasts-hold;
          in_place = table_in_place nodes r limit old leasts totals table rooted g.counted leasts_are leasts-hold;
          shares_end = take-at-tabulate nodes (kept_share nodes (at old) limit (at leasts) (at totals) (held table));
        }

    kept_way : KeptFine nodes limit totals old (kept_plan nodes limit table totals old)
    kept_way = record { kind = refl; helpands = refl; within = kept-shares.within }

  -- ---- rebuilt

  rebuilt :
      let d = rebuilt_plan nodes p totals old in
      (r : ℕ) × NewTree nodes p totals (record { helpands = d.helpands; shares = d.shares }) r
  rebuilt =
      let b = rebuilt-on-target nodes p totals old g.some g.few g.below totals_long g.adds in (b.0, b.2)

  rebuilt_fine : primary nodes (at totals) limit ≡ false → Fine nodes limit totals (rebuilt_plan nodes p totals old)
  rebuilt_fine f =
      let b = rebuilt.1 in
      let d = rebuilt_plan nodes p totals old in
      record {
        read_back =
            tree-read-written nodes limit d.helpands d.shares g.few bounds.written (omega (arith, b.helpands_long, g.few))
            (omega (arith, b.shares_long, g.few)) 2 rebuilt.0 (λ z. omega arith) (omega arith) (not-alone f) b.tree
            (λ k l. omega (arith, b.under_target k l, bounds.below k)) b.root_share;
        inside = b.tree.inside;
        enough = λ n l. omega (arith, b.on_target.division.parts n l);
      }

  rebuilt_way : RebuiltFine nodes p totals (rebuilt_plan nodes p totals old)
  rebuilt_way = record { kind = refl; tree = (rebuilt.0, rebuilt.1.tree); on_target = rebuilt.1.on_target }

  -- ---- the decision itself

  abbrev decision : Decision
  decision = decided nodes p limit table totals tree old

  -- THEOREM. Where a tree is needed, an old tree that holds is kept, and its shares are a division within the limit.
  pub decided-kept : primary nodes (at totals) limit ≡ false → tree ≡ true → holds nodes (at old) (at totals) limit ≡ true
      → KeptFine nodes limit totals old decision
  unfolding decided
  decided-kept f e h = let r = g.rooted e in simp (f, e, h) (kept_way r.0 r.1 h)

  -- THEOREM. Where a tree is needed and there is none that holds, the new one puts every node on its target.
  pub decided-rebuilt : primary nodes (at totals) limit ≡ false → (tree && holds nodes (at old) (at totals) limit) ≡ false
      → RebuiltFine nodes p totals decision
  unfolding decided
  decided-rebuilt f h = simp (f, h) rebuilt_way

  -- THEOREM. Where a tree is needed and the old one is kept, the rest of each family is levelled, and helpers' own particles are in place.
  pub decided_families : primary nodes (at totals) limit ≡ false → tree ≡ true → kind_number decision.kind ≡ 1
      → KeptFamilies nodes limit table totals old decision
  decided_families f e k = by (either (holds nodes (at old) (at totals) limit))
    where
      by : (holds nodes (at old) (at totals) limit ≡ true) ⊎ (holds nodes (at old) (at totals) limit ≡ false)
          → KeptFamilies nodes limit table totals old decision
      by (inl h) = unfold decided in let r = g.rooted e in simp (f, e, h) (kept_families r.0 r.1 h)
      by (inr h) = absurd (omega (arith, k, (decided-rebuilt f (simp (e, h))).kind))

  -- THEOREM. Whichever way it went, the plan is read back as what was written, and no owner's helpers are given more than there is.
  pub decided_fine : Fine nodes limit totals decision
  unfolding decided
  decided_fine = by-load (either (primary nodes (at totals) limit))
    where
      by-tree : primary nodes (at totals) limit ≡ false
          → (tree && holds nodes (at old) (at totals) limit ≡ true) ⊎ (tree && holds nodes (at old) (at totals) limit ≡ false)
          → Fine nodes limit totals decision
      by-tree f (inl h) =
          let r = g.rooted (and_left tree (holds nodes (at old) (at totals) limit) h) in
          rw (f, h) (kept_fine r.0 r.1 (and_right tree (holds nodes (at old) (at totals) limit) h) f)
      by-tree f (inr h) = rw (f, h) (rebuilt_fine f)

      by-load : (primary nodes (at totals) limit ≡ true) ⊎ (primary nodes (at totals) limit ≡ false) → Fine nodes limit totals decision
      by-load (inl e) = rw e primary_fine
      by-load (inr f) = by-tree f (either (tree && holds nodes (at old) (at totals) limit))

-- THEOREM. Request 2026-07, "Whether a tree is kept does not depend on this": the kind does not depend on who holds the particles.
pub kind-by-totals : (nodes p limit : ℕ) (totals : List ℕ) (tree : Bool) (old table table' : List ℕ)
    → (decided nodes p limit table totals tree old).kind ≡ (decided nodes p limit table' totals tree old).kind
unfolding decided
kind-by-totals nodes p limit totals tree old table table' =
    alike (primary nodes (at totals) limit) (tree && holds nodes (at old) (at totals) limit)
  where
    kind_of : List ℕ → Bool → Bool → Kind
    kind_of xs low keeps =
        (cond low (primary_plan nodes) (cond keeps (kept_plan nodes limit xs totals old) (rebuilt_plan nodes p totals old))).kind

    alike : (low keeps : Bool) → kind_of table low keeps ≡ kind_of table' low keeps
    alike true keeps = refl
    alike false true = refl
    alike false false = refl
