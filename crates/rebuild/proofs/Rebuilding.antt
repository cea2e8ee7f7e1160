-- What a rebuilding ends in. A node that helps another finished before it did, so the number of turns left falls along the helpands, up
-- to the root: the new helpands are a tree. A finished node has its target, and with A empty so has every other node. Assumes nothing.
use mathlib.Core.Path.{◌≡◌, refl, sym, ap, ◌∙◌}
use mathlib.Core.Logic.{◌≢◌, ◌⊎◌, inl, inr, ⊎_elim}
use mathlib.Core.List.{List}
use mathlib.Core.Bool.{Bool, true, false, not, ◌&&◌, cond, true≢false}
use Prim.Native.Nat.{ℕ, zero, suc, ◌+◌, ◌-◌, ◌≤◌, ◌<◌}
use native.Mathlib.Decide.{ℕ_discrete}
use native.Mathlib.Omega.{arith}
use lib.Dec.{eqb, ltb}
use lib.ListN.{length}
use borrow.Author.Tests.{eq-eqb, ne_eqb, eqb-true, ltb-true}
use Rattle.fold.specs.Sum.{only, sum}
use Rattle.fold.specs.Best.{never}
use Rattle.fold.proofs.Tests.{either, only-is, only_zero, all-at}
use Rattle.fold.proofs.Sums.{sum-eq}
use Rattle.fold.proofs.Scans.{best-found, best-some}
use Rattle.limit.specs.Limit.{max_nodes, limit_of}
use Rattle.plan.specs.Tree.{helpands_below, is_root, walk, Tree}
use Rattle.plan.proofs.Trees.{walk_none, walk_more, walk-own}
use Rattle.tree.specs.Family.{helps, over_helpers}
use Rattle.arrays.specs.Arrays.{at, tabulate}
use Rattle.tree.specs.Division.{OnTarget, WithinLimit, load, own_of}
use Rattle.rebuild.specs.declared.Balance.{Balance}
use Rattle.rebuild.specs.declared.Rebuilt.{Rebuilt}
use Rattle.rebuild.specs.Target.{target_of}
use Rattle.rebuild.specs.Rebuild.{is, in_b, need_of, next_l, next_g, start_of, run_of, lowest_in_b, new_helpand, new_share, finish_of, rebuilt_of}
use Rattle.rebuild.proofs.TargetSums.{target-limit}
use Rattle.rebuild.proofs.Choices.{in_b_is, in_b_of, in_b_done, first-lowest, finish-at, helpand_in, helpand-out, share_in, share-out}
use Rattle.rebuild.proofs.Turns.{level}
use Rattle.rebuild.proofs.Loops.{Sound, sound-few, next-none, serve, run_sound, start-sound}
use Rattle.arrays.proofs.Tabulate.{tabulate-at, length-tabulate}
use Rattle.std.specs.Prelude.{None, Some}

-- a rank that falls along the helpands leads to the root
reach_rank : (nodes : ℕ) (h : ℕ → ℕ) (r : ℕ) (rank : ℕ → ℕ) → h r ≡ r → ((k : ℕ) → k < nodes → h k < nodes)
    → ((k : ℕ) → k < nodes → k ≢ r → rank (h k) < rank k)
    → (j k : ℕ) → k < nodes → rank k ≤ j → walk h j k ≡ r
reach_rank nodes h r rank own inside falls zero k b m =
    walk_none h k ∙ elim (ℕ_discrete k r) [ yes e ↦ e | no d ↦ absurd (omega (arith, falls k b d)) ]
reach_rank nodes h r rank own inside falls (suc j) k b m = elim (ℕ_discrete k r) [
  | yes e ↦ rw e (walk-own h r own (suc j))
  | no d ↦ walk_more h j k ∙ reach_rank nodes h r rank own inside falls j (h k) (inside k b) (omega (arith, falls k b d))
]

and-not : (a c : Bool) → (a ≡ true → c ≡ false) → (a && not c) ≡ a
and-not true c h = ap not (h refl)
and-not false c h = refl

-- what is known of the new helpands and shares, with the root
pub record NewTree (nodes p : ℕ) (totals : List ℕ) (r : Rebuilt) (root : ℕ) : Type 0 where
  pub tree : Tree nodes (at r.helpands) root
  pub on_target : let h = at r.helpands in let share = at r.shares in
      OnTarget nodes h (at totals) (target_of nodes p) (own_of nodes h (at totals) share) share
  pub root_share : at r.shares root ≡ 0
  pub under_target : (k : ℕ) → k < nodes → at r.shares k ≤ target_of nodes p k
  pub helpands_long : length r.helpands ≡ 64
  pub shares_long : length r.shares ≡ 64

-- ---- from a state in which A has no node

module _ (nodes p : ℕ) (few : nodes ≤ 64) (totals : List ℕ) (s : Balance) (t : ℕ)
    (v : Sound nodes p (at totals) s t)
    (end : (k : ℕ) → k < nodes → is s.finished k ≡ false → at s.targets k ≤ at s.loads k)
    (root : ℕ)
    (found : lowest_in_b nodes s.loads s.targets s.finished ≡ Some root) where
  helpand : ℕ → ℕ
  helpand = at (tabulate nodes (new_helpand s root))

  share : ℕ → ℕ
  share = at (tabulate nodes (new_share s))

  root-node : root < nodes
  root-node = (best-found (in_b s.loads s.targets s.finished) never nodes root found).0

  root-open : is s.finished root ≡ false
  root-open =
      (in_b_is (at s.loads root) (at s.targets root) (is s.finished root)
      (best-found (in_b s.loads s.targets s.finished) never nodes root found).1).0

  -- B has the unfinished nodes
  open_in : (k : ℕ) → k < nodes → is s.finished k ≡ false → in_b s.loads s.targets s.finished k ≡ true
  open_in k b o = in_b_of (at s.loads k) (at s.targets k) (is s.finished k) o (end k b o)

  done-out : (k : ℕ) → is s.finished k ≡ true → in_b s.loads s.targets s.finished k ≡ false
  done-out k e = in_b_done (at s.loads k) (at s.targets k) (is s.finished k) e

  helpand-done : (k : ℕ) → k < nodes → is s.finished k ≡ true → helpand k ≡ at s.helpands k
  unfolding helpand
  helpand-done k b e = tabulate-at nodes (new_helpand s root) k b ∙ helpand-out s k root (done-out k e)

  helpand-open : (k : ℕ) → k < nodes → is s.finished k ≡ false → helpand k ≡ root
  unfolding helpand
  helpand-open k b o = tabulate-at nodes (new_helpand s root) k b ∙ helpand_in s k root (open_in k b o)

  share-is : (k : ℕ) → k < nodes → share k ≡ at s.shares k
  unfolding share
  share-is k b = tabulate-at nodes (new_share s) k b ∙ by (either (is s.finished k))
    where
      by : (is s.finished k ≡ true) ⊎ (is s.finished k ≡ false) → new_share s k ≡ at s.shares k
      by (inl e) = share-out s k (done-out k e)
      by (inr o) = share_in s k (open_in k b o) ∙ sym (v.inv.idle k b o)

  -- ---- a tree

  -- turns left when a node finished; the unfinished nodes help the root
  rank : ℕ → ℕ
  rank k = cond (eqb k root) 0 (cond (is s.finished k) (suc t - v.time k) 1)

  rank_root : rank root ≡ 0
  unfolding rank
  rank_root = rw (eq-eqb root root refl)

  rank_done : (k : ℕ) → is s.finished k ≡ true → rank k ≡ suc t - v.time k
  unfolding rank
  rank_done k e = rw (ne_eqb k root (λ q. true≢false (sym e ∙ ap (is s.finished) q ∙ root-open)), e)

  rank_open : (k : ℕ) → is s.finished k ≡ false → rank k ≤ 1
  unfolding rank
  rank_open k e = rw e (small (eqb k root))
    where
      small : (c : Bool) → cond c 0 1 ≤ 1
      small true = omega arith
      small false = omega arith

  rank_other : (k : ℕ) → k ≢ root → is s.finished k ≡ false → rank k ≡ 1
  unfolding rank
  rank_other k d e = rw (ne_eqb k root d, e)

  falls : (k : ℕ) → k < nodes → k ≢ root → rank (helpand k) < rank k
  falls k b d = by (either (is s.finished k))
    where
      next : is s.finished k ≡ true → (is s.finished (at s.helpands k) ≡ true) ⊎ (is s.finished (at s.helpands k) ≡ false)
          → rank (at s.helpands k) < rank k
      next e (inl f) = omega (arith, rank_done k e, rank_done (at s.helpands k) f, v.inv.later k b e f, v.inv.past k b e)
      next e (inr f) = omega (arith, rank_done k e, rank_open (at s.helpands k) f, v.inv.past k b e)

      by : (is s.finished k ≡ true) ⊎ (is s.finished k ≡ false) → rank (helpand k) < rank k
      by (inl e) = rw (helpand-done k b e) (next e (either (is s.finished (at s.helpands k))))
      by (inr o) = rw (helpand-open k b o) (omega (arith, rank_root, rank_other k d o))

  rank_max : (k : ℕ) → rank k ≤ nodes
  rank_max k = by (either (is s.finished k))
    where
      by : (is s.finished k ≡ true) ⊎ (is s.finished k ≡ false) → rank k ≤ nodes
      by (inl e) = omega (arith, rank_done k e, sound-few nodes p few (at totals) s t v)
      by (inr o) = omega (arith, rank_open k o, root-node)

  inside : (k : ℕ) → k < nodes → helpand k < nodes
  inside k b = by (either (is s.finished k))
    where
      by : (is s.finished k ≡ true) ⊎ (is s.finished k ≡ false) → helpand k < nodes
      by (inl e) = rw (helpand-done k b e) (v.inv.inside k b e)
      by (inr o) = rw (helpand-open k b o) root-node

  new-tree : Tree nodes helpand root
  new-tree = record {
    root = root-node;
    own = helpand-open root root-node root-open;
    inside = inside;
    reach = λ k b. reach_rank nodes helpand root rank (helpand-open root root-node root-open) inside falls nodes k b (rank_max k);
  }

  -- ---- a division along it, on target

  same-part : (n k : ℕ) → k < nodes
      → only (helps helpand n k) (share k) ≡ only (is s.finished k && eqb (at s.helpands k) n) (at s.shares k)
  same-part n k b = rw (share-is k b) (by (either (is s.finished k)))
    where
      by : (is s.finished k ≡ true) ⊎ (is s.finished k ≡ false)
          → only (helps helpand n k) (at s.shares k) ≡ only (is s.finished k && eqb (at s.helpands k) n) (at s.shares k)
      by (inl e) =
          rw (helpand-done k b e, e)
          (ap (λ (c : Bool). only c (at s.shares k))
          (and-not (eqb (at s.helpands k) n) (eqb k n)
          (λ q. ne_eqb k n (λ z. v.inv.apart k b e (eqb-true (at s.helpands k) n q ∙ sym z)))))
      by (inr o) =
          rw (v.inv.idle k b o) (only_zero (helps helpand n k) ∙ sym (only_zero (is s.finished k && eqb (at s.helpands k) n)))

  parts : (n : ℕ) → n < nodes → at s.loads n + over_helpers nodes helpand n share ≡ at totals n
  parts n b =
      ap (λ (x : ℕ). at s.loads n + x)
      (sum-eq nodes (λ k. only (helps helpand n k) (share k))
      (λ k. only (is s.finished k && eqb (at s.helpands k) n) (at s.shares k)) (same-part n))
      ∙ v.inv.parts n b

  -- an owner is left with its load
  own_is : (n : ℕ) → n < nodes → own_of nodes helpand (at totals) share n ≡ at s.loads n
  own_is n b = omega (arith, parts n b)

  on : (n : ℕ) → n < nodes → load helpand (own_of nodes helpand (at totals) share) share n ≡ target_of nodes p n
  on n b = by (either (is s.finished n))
    where
      by : (is s.finished n ≡ true) ⊎ (is s.finished n ≡ false)
          → load helpand (own_of nodes helpand (at totals) share) share n ≡ target_of nodes p n
      by (inl e) =
          omega (
            arith,
            own_is n b,
            share-is n b,
            v.aims n b,
            v.inv.met n b e,
            only-is (not (is_root helpand n)) (share n)
                (ap not (ne_eqb (helpand n) n (λ z. v.inv.apart n b e (sym (helpand-done n b e) ∙ z)))),
          )
      by (inr o) =
          omega (
            arith,
            own_is n b,
            v.aims n b,
            level nodes (at totals) (at s.targets) (at s.loads) (is s.finished) (at s.helpands) (at s.shares) t v.time
                v.inv end n b o,
            ap (only (not (is_root helpand n))) (share-is n b ∙ v.inv.idle n b o) ∙ only_zero (not (is_root helpand n)),
          )

  under : (k : ℕ) → k < nodes → share k ≤ target_of nodes p k
  under k b = by (either (is s.finished k))
    where
      by : (is s.finished k ≡ true) ⊎ (is s.finished k ≡ false) → share k ≤ target_of nodes p k
      by (inl e) = omega (arith, share-is k b, v.inv.met k b e, v.aims k b)
      by (inr o) = omega (arith, share-is k b, v.inv.idle k b o)

  pub finished_tree : NewTree nodes p totals (finish_of nodes s) root
  unfolding helpand share
  finished_tree = rw (finish-at nodes s root found) (record {
    tree = new-tree;
    on_target = record { division = record { parts = λ n b. omega (arith, own_is n b, parts n b) }; on = on };
    root_share = share-is root root-node ∙ v.inv.idle root root-node root-open;
    under_target = under;
    helpands_long = length-tabulate nodes (new_helpand s root) few;
    shares_long = length-tabulate nodes (new_share s) few;
  })

-- ---- theorem 4: for every number of nodes, whether or not it divides the total, and with any old tree or none

module _ (nodes p : ℕ) (totals old : List ℕ)
    (some : 1 ≤ nodes)
    (few : nodes ≤ max_nodes)
    (nodes-old : helpands_below nodes (at old) ≡ true)
    (long : length totals ≡ 64)
    (adds : sum nodes (at totals) ≡ p) where
  old-inside : (k : ℕ) → k < nodes → at old k < nodes
  old-inside k b = ltb-true (at old k) nodes (all-at nodes (λ j. ltb (at old j) nodes) nodes-old k b)

  -- the state after so many turns
  abbrev after : ℕ → Balance
  after turns = run_of nodes old turns (start_of nodes p totals)

  after-sound : (turns : ℕ)
      → (u : ℕ) × Sound nodes p (at totals) (after turns) u × ((next_l nodes (after turns) ≡ None) ⊎ (u ≡ 0 + turns))
  after-sound turns =
      run_sound nodes p few (at totals) old old-inside turns (start_of nodes p totals) 0 (start-sound nodes p totals some few long adds)

  -- THEOREM. After any number of turns: while A has a node l, B has the node g that l is to help, and g has what l needs.
  pub turn_possible : (turns l : ℕ) → next_l nodes (after turns) ≡ Some l
      → (g : ℕ)
      × (next_g nodes old (after turns) l ≡ Some g)
      × (in_b (after turns).loads (after turns).targets (after turns).finished g ≡ true)
      × (need_of (after turns) l ≤ at (after turns).loads g)
  turn_possible turns l e =
      let v = after-sound turns in
      let r = serve nodes p few (at totals) old old-inside (after turns) v.0 v.1 l e in (
        r.0,
        r.1,
        in_b_of (at (after turns).loads r.0) (at (after turns).targets r.0) (is (after turns).finished r.0) r.2.unfinished
            r.2.full,
        r.2.enough,
      )

  -- THEOREM. The loop ends: after as many turns as there are nodes, A has no node.
  pub turns-end : next_l nodes (after nodes) ≡ None
  turns-end =
      let v = after-sound nodes in
      ⊎_elim (λ e. e) (λ u. absurd (omega (arith, u, sound-few nodes p few (at totals) (after nodes) v.0 v.1))) v.2

  -- THEOREM. Then B has a node, and the lowest of B is the root of a tree of the new helpands. Along it the new shares, with what is left
  -- to each owner, are a division with every load equal to the node's target.
  pub rebuilt-on-target : (root : ℕ)
      × (lowest_in_b nodes (after nodes).loads (after nodes).targets (after nodes).finished ≡ Some root)
      × NewTree nodes p totals (rebuilt_of nodes p totals old) root
  unfolding rebuilt_of
  rebuilt-on-target =
      let s = after nodes in
      let v = after-sound nodes in
      let end = next-none nodes p few (at totals) s turns-end in
      let k = v.1.inv.left in
      let r =
      best-some (in_b s.loads s.targets s.finished) never nodes k.0 k.1
      (in_b_of (at s.loads k.0) (at s.targets k.0) (is s.finished k.0) k.2 (end k.0 k.1 k.2)) in
      (r.0, r.1, finished_tree nodes p few totals s v.0 v.1 end r.0 r.1)

  -- THEOREM. No node of B is lower than the root.
  pub root-lowest : (k : ℕ) → k < rebuilt-on-target.0 → in_b (after nodes).loads (after nodes).targets (after nodes).finished k ≡ false
  root-lowest =
      first-lowest (in_b (after nodes).loads (after nodes).targets (after nodes).finished) nodes rebuilt-on-target.0
      rebuilt-on-target.1

  -- ---- under the limit of any tolerance

  module _ (t : ℕ) where
    -- THEOREM. Along the new tree no load is above the limit.
    pub rebuilt-within : let r = rebuilt_of nodes p totals old in
        WithinLimit nodes (at r.helpands) (at totals) (limit_of p nodes t) (own_of nodes (at r.helpands) (at totals) (at r.shares))
        (at r.shares)
    rebuilt-within =
        let o = rebuilt-on-target.2.on_target in
        record { division = o.division; within = λ n b. omega (arith, o.on n b, target-limit nodes p t some n) }
