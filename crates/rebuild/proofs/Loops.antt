-- The loop of a rebuilding: each state that it reaches keeps the invariant, so that whom l helps is found, is in B and has the need, and
-- a node is left unfinished; a turn finishes one, so there are fewer turns than nodes. Assumes nothing.
use mathlib.Core.Path.{◌≡◌, refl, sym, ap, ◌∙◌}
use mathlib.Core.Logic.{◌≢◌, ◌⊎◌, inl, inr, ⊎_elim}
use mathlib.Core.List.{List}
use mathlib.Core.Bool.{Bool, true, false, not, ◌&&◌, cond, true≢false}
use Prim.Native.Nat.{ℕ, zero, suc, ◌+◌, ◌-◌, ◌≤◌, ◌<◌}
use native.Mathlib.Decide.{dec_lt}
use native.Mathlib.Omega.{arith}
use lib.Dec.{eqb, leb}
use lib.ListN.{length, get_or, set, replicate, length-set, length-replicate, get_or-replicate}
use lib.Seq.{get_or-set_same, get_or-set_other}
use borrow.Author.Tests.{leb-true}
use Rattle.fold.specs.Sum.{only, sum}
use Rattle.fold.specs.Best.{larger, smaller}
use Rattle.fold.proofs.Tests.{either, and_left, and_right, only-is, only-not}
use Rattle.fold.proofs.Sums.{sum-eq, sum_zeros, sum_ones}
use Rattle.fold.proofs.Scans.{best-found, best-nothing, best-some, largest-le}
use Rattle.arrays.specs.Arrays.{at}
use Rattle.rebuild.specs.declared.Balance.{Balance}
use Rattle.rebuild.specs.Target.{target_of, targets_of}
use Rattle.rebuild.specs.Rebuild.{is, in_a, in_b, largest_in_b, need_of, old_serves, turn_of, next_l, next_g, start_of, run_of}
use Rattle.rebuild.proofs.Choices.{in_a-is, in_b_is, in_a_of, in_b_of}
use Rattle.rebuild.proofs.TargetSums.{target-near, target-sum}
use Rattle.rebuild.proofs.Turns.{Changed, Inv, above, turned, stamp}
use Rattle.arrays.proofs.Tabulate.{tabulate-at}
use Rattle.std.specs.Prelude.{None, Option, Some}

-- a store in a list changes one place
changed : {A : Type 0} (xs : List A) (i : ℕ) (v d : A) → i < length xs → Changed (λ k. get_or xs k d) (λ k. get_or (set xs i v) k d) i v
changed xs i v d h = record { here = get_or-set_same xs i v d h; other = λ k q. get_or-set_other xs i k v d q }

-- a state after t turns
pub record Sound (nodes p : ℕ) (total : ℕ → ℕ) (s : Balance) (t : ℕ) : Type 0 where
  pub loads_long : length s.loads ≡ 64
  pub finished_long : length s.finished ≡ 64
  pub helpands_long : length s.helpands ≡ 64
  pub shares_long : length s.shares ≡ 64
  pub aims : (k : ℕ) → k < nodes → at s.targets k ≡ target_of nodes p k
  pub time : ℕ → ℕ
  pub inv : Inv nodes total (at s.targets) (at s.loads) (is s.finished) (at s.helpands) (at s.shares) t time

-- g can help l out: it is in B and has the need
pub record Served (nodes : ℕ) (s : Balance) (l g : ℕ) : Type 0 where
  pub node : g < nodes
  pub unfinished : is s.finished g ≡ false
  pub full : at s.targets g ≤ at s.loads g
  pub enough : need_of s l ≤ at s.loads g

-- a state that the loop reaches: what is left to run of it gives the whole
pub record Reached (nodes p : ℕ) (total : ℕ → ℕ) (old : List ℕ) (whole s : Balance) : Type 0 where
  pub turns : ℕ
  pub sound : Sound nodes p total s turns
  pub rest : whole ≡ run_of nodes old (nodes - turns) s

-- how many nodes are not finished: the loop's measure
abbrev pub unfinished : ℕ → Balance → ℕ
unfinished nodes s = nodes - sum nodes (λ k. only (is s.finished k) 1)

module _ (nodes p : ℕ) (few : nodes ≤ 64) (total : ℕ → ℕ) where
  -- a node is left
  pub sound-few : (s : Balance) (t : ℕ) → Sound nodes p total s t → t < nodes
  sound-few s t v = omega (arith, v.inv.count, sum_ones nodes (is s.finished) v.inv.left.0 v.inv.left.1 v.inv.left.2)

  -- l is a node under its target
  pub next_l_lem : (s : Balance) (l : ℕ) → next_l nodes s ≡ Some l
      → (l < nodes) × (is s.finished l ≡ false) × (at s.loads l < at s.targets l)
  next_l_lem s l e =
      let f = best-found (in_a s.loads s.targets s.finished) (smaller (at s.loads)) nodes l e in
      let i = in_a-is (at s.loads l) (at s.targets l) (is s.finished l) f.1 in
      (f.0, i.0, i.1)

  -- where no l is found, no unfinished node is under its target
  pub next-none : (s : Balance) → next_l nodes s ≡ None → (k : ℕ) → k < nodes → is s.finished k ≡ false
      → at s.targets k ≤ at s.loads k
  next-none s e k b o = elim (dec_lt (at s.loads k) (at s.targets k)) [
    | no d ↦ omega arith
    | yes h ↦ absurd (true≢false (
        sym (in_a_of (at s.loads k) (at s.targets k) (is s.finished k) o h)
        ∙ best-nothing (in_a s.loads s.targets s.finished) (smaller (at s.loads)) nodes e k b
        ))
  ]

  -- a turn keeps the invariant
  pub turn-sound : (s : Balance) (t : ℕ) → Sound nodes p total s t → (l g : ℕ) → next_l nodes s ≡ Some l → Served nodes s l g
      → Sound nodes p total (turn_of s l g (need_of s l)) (suc t)
  unfolding turn_of
  turn-sound s t v l g e q =
      let i = next_l_lem s l e in
      let need = need_of s l in
      let apart : l ≢ g = λ z. omega (arith, ap (at s.targets) z, ap (at s.loads) z, i.2, q.full) in
      let bl : l < 64 = omega (arith, i.0) in
      let bg : g < 64 = omega (arith, q.node) in
      record {
        loads_long = length-set s.loads g (at s.loads g - need) ∙ v.loads_long;
        finished_long = length-set s.finished l true ∙ v.finished_long;
        helpands_long = length-set s.helpands l g ∙ v.helpands_long;
        shares_long = length-set s.shares l need ∙ v.shares_long;
        aims = v.aims;
        time = stamp v.time l t;
        inv =
            turned nodes total (at s.targets) (at s.loads) (is s.finished) (at s.helpands) (at s.shares) t v.time
            v.inv l g need
            i.0 q.node apart i.1 q.unfinished (omega (arith, i.2)) q.enough
            (at (set s.loads g (at s.loads g - need))) (is (set s.finished l true)) (at (set s.helpands l g))
            (at (set s.shares l need))
            (changed s.loads g (at s.loads g - need) 0 (omega (arith, v.loads_long)))
            (changed s.finished l true false (omega (arith, v.finished_long)))
            (changed s.helpands l g 0 (omega (arith, v.helpands_long)))
            (changed s.shares l need 0 (omega (arith, v.shares_long)));
      }

  module _ (old : List ℕ) (inside : (k : ℕ) → k < nodes → at old k < nodes) where
    -- while A has a node, B has one, and whom l helps is in B and has the need
    pub serve : (s : Balance) (t : ℕ) → Sound nodes p total s t → (l : ℕ) → next_l nodes s ≡ Some l
        → (g : ℕ) × (next_g nodes old s l ≡ Some g) × Served nodes s l g
    serve s t v l e = pick (either (old_serves s.loads s.targets s.finished l (need_of s l) (at old l)))
      where
        i : (l < nodes) × (is s.finished l ≡ false) × (at s.loads l < at s.targets l)
        i = next_l_lem s l e

        by_old : old_serves s.loads s.targets s.finished l (need_of s l) (at old l) ≡ true → Served nodes s l (at old l)
        by_old q =
            let b = in_b s.loads s.targets s.finished (at old l) in
            let m = leb (need_of s l) (at s.loads (at old l)) in
            let r = and_right (not (eqb (at old l) l)) (b && m) q in
            let w = in_b_is (at s.loads (at old l)) (at s.targets (at old l)) (is s.finished (at old l)) (and_left b m r) in
            record {
              node = inside l i.0;
              unfinished = w.0;
              full = w.1;
              enough = leb-true (need_of s l) (at s.loads (at old l)) (and_right b m r);
            }

        -- the largest of B has the need, since some node of B is above its target
        by-largest : (g : ℕ) × (largest_in_b nodes s.loads s.targets s.finished ≡ Some g) × Served nodes s l g
        by-largest =
            let ok = in_b s.loads s.targets s.finished in
            let r =
            above nodes total (at s.targets) (at s.loads) (is s.finished) (at s.helpands) (at s.shares) t v.time
            v.inv l i.0 i.1 i.2 in
            let o : ok r.0 ≡ true =
            in_b_of (at s.loads r.0) (at s.targets r.0) (is s.finished r.0) r.2 (omega (arith, r.3)) in
            let b = best-some ok (larger (at s.loads)) nodes r.0 r.1 o in
            let f = best-found ok (larger (at s.loads)) nodes b.0 b.1 in
            let w = in_b_is (at s.loads b.0) (at s.targets b.0) (is s.finished b.0) f.1 in (
              b.0,
              b.1,
              record {
                node = f.0;
                unfinished = w.0;
                full = w.1;
                enough =
                    omega (
                      arith,
                      v.aims l i.0,
                      v.aims r.0 r.1,
                      target-near nodes p l r.0,
                      r.3,
                      largest-le ok (at s.loads) nodes b.0 b.1 r.0 r.1 o,
                    );
              },
            )

        way : Bool → Option ℕ
        way t = cond t (Some (at old l)) (largest_in_b nodes s.loads s.targets s.finished)

        pick : (old_serves s.loads s.targets s.finished l (need_of s l) (at old l) ≡ true)
            ⊎ (old_serves s.loads s.targets s.finished l (need_of s l) (at old l) ≡ false)
            → (g : ℕ) × (next_g nodes old s l ≡ Some g) × Served nodes s l g
        pick (inl q) = (at old l, ap way q, by_old q)
        pick (inr q) = (by-largest.0, ap way q ∙ by-largest.1, by-largest.2)

    -- so the g that is found is such a node
    pub served : (s : Balance) (t : ℕ) → Sound nodes p total s t → (l g : ℕ) → next_l nodes s ≡ Some l → next_g nodes old s l ≡ Some g
        → Served nodes s l g
    served s t v l g e f =
        let r = serve s t v l e in
        let w : Some r.0 ≡ Some g = sym r.1 ∙ f in
        let z : r.0 ≡ g = cc in
        rw z at r.2

    -- ---- the run, by the way that a turn goes

    pub run-turn : (d : ℕ) (s : Balance) (l g : ℕ) → next_l nodes s ≡ Some l → next_g nodes old s l ≡ Some g
        → run_of nodes old (suc d) s ≡ run_of nodes old d (turn_of s l g (need_of s l))
    unfolding run_of
    run-turn d s l g e f = rw (e, run_of) (rw f)

    pub run-stop : (d : ℕ) (s : Balance) → next_l nodes s ≡ None → run_of nodes old d s ≡ s
    unfolding run_of
    run-stop zero s e = refl
    run-stop (suc d) s e = rw (e, run_of)

    -- after so many turns the invariant holds, and where there were fewer of them, A has no node
    pub run_sound : (d : ℕ) (s : Balance) (t : ℕ) → Sound nodes p total s t
        → (u : ℕ) × Sound nodes p total (run_of nodes old d s) u × ((next_l nodes (run_of nodes old d s) ≡ None) ⊎ (u ≡ t + d))
    unfolding run_of
    run_sound zero s t v = (t, v, inr (omega arith))
    run_sound (suc d) s t v = way (next_l nodes s) refl (λ s' w. run_sound d s' (suc t) w)
      where
        After : Balance → Type 0
        After b = (u : ℕ) × Sound nodes p total b u × ((next_l nodes b ≡ None) ⊎ (u ≡ t + suc d))

        later : (b : Balance) → (u : ℕ) × Sound nodes p total b u × ((next_l nodes b ≡ None) ⊎ (u ≡ suc t + d)) → After b
        later b r = (r.0, r.1, ⊎_elim (λ e. inl e) (λ e. inr (omega arith)) r.2)

        way : (f : Option ℕ) → next_l nodes s ≡ f
            → ((s' : Balance) → Sound nodes p total s' (suc t)
            → (u : ℕ) × Sound nodes p total (run_of nodes old d s') u × ((next_l nodes (run_of nodes old d s') ≡ None) ⊎ (u ≡ suc t + d)))
            → After (run_of nodes old (suc d) s)
        way None e go = rw (run-stop (suc d) s e) (t, v, inl e)
        way (Some l) e go =
            let q = serve s t v l e in
            let b = turn_of s l q.0 (need_of s l) in
            rw (run-turn d s l q.0 e q.1) (later (run_of nodes old d b) (go b (turn-sound s t v l q.0 e q.2)))

    -- ---- a turn of the loop

    module _ (whole s : Balance) (r : Reached nodes p total old whole s) where
      pub reached-end : next_l nodes s ≡ None → whole ≡ s
      reached-end e = r.rest ∙ run-stop (nodes - r.turns) s e

      -- g is always found
      pub reached-some : (l : ℕ) → next_l nodes s ≡ Some l → next_g nodes old s l ≡ None → ⊥
      reached-some l e f =
          let q = (serve s r.turns r.sound l e).1 in
          let z : ◌≡◌ {A = ℕ} 0 1 = cc in
          omega arith

      module _ (l g : ℕ) (e : next_l nodes s ≡ Some l) (f : next_g nodes old s l ≡ Some g) where
        pub reached_served : Served nodes s l g
        reached_served = served s r.turns r.sound l g e f

        reached-sound : Sound nodes p total (turn_of s l g (need_of s l)) (suc r.turns)
        reached-sound = turn-sound s r.turns r.sound l g e reached_served

        pub reached-turn : Reached nodes p total old whole (turn_of s l g (need_of s l))
        reached-turn =
            let h : nodes - r.turns ≡ suc (nodes - suc r.turns) = omega (arith, sound-few s r.turns r.sound) in
            record {
              turns = suc r.turns;
              sound = reached-sound;
              rest = r.rest ∙ ap (λ (d : ℕ). run_of nodes old d s) h ∙ run-turn (nodes - suc r.turns) s l g e f;
            }

        pub reached-less : unfinished nodes (turn_of s l g (need_of s l)) < unfinished nodes s
        reached-less = omega (arith, r.sound.inv.count, reached-sound.inv.count, sound-few s r.turns r.sound)

-- ---- the start

module _ (nodes p : ℕ) (totals : List ℕ)
    (some : 1 ≤ nodes)
    (few : nodes ≤ 64)
    (long : length totals ≡ 64)
    (adds : sum nodes (at totals) ≡ p) where
  none_yet : (k : ℕ) → k < nodes → is (replicate 64 false) k ≡ false
  none_yet k b = get_or-replicate 64 k false false (omega arith)

  never : (k : ℕ) → k < nodes → is (replicate 64 false) k ≡ true → ⊥
  never k b f = true≢false (sym f ∙ none_yet k b)

  every : (f : ℕ → ℕ) → sum nodes (λ k. only (not (is (replicate 64 false) k)) (f k)) ≡ sum nodes f
  every f =
      sum-eq nodes (λ k. only (not (is (replicate 64 false) k)) (f k)) f
      (λ k b. only-is (not (is (replicate 64 false) k)) (f k) (ap not (none_yet k b)))

  start-target : (k : ℕ) → k < nodes → at (start_of nodes p totals).targets k ≡ target_of nodes p k
  unfolding start_of
  start-target k b = tabulate-at nodes (target_of nodes p) k b

  pub start-sound : Sound nodes p (at totals) (start_of nodes p totals) 0
  unfolding start_of
  start-sound = record {
    loads_long = long;
    finished_long = length-replicate 64 false;
    helpands_long = length-replicate {A = ℕ} 64 0;
    shares_long = length-replicate {A = ℕ} 64 0;
    aims = start-target;
    time = λ k. 0;
    inv = record {
      even =
          every (at totals) ∙ adds ∙ sym (target-sum nodes p some)
          ∙ sym (sum-eq nodes (at (targets_of nodes p)) (target_of nodes p) (λ k b. start-target k b))
          ∙ sym (every (at (targets_of nodes p)));
      count = sum_zeros nodes (λ k. only (is (replicate 64 false) k) 1) (λ k b. only-not (is (replicate 64 false) k) 1 (none_yet k b));
      met = λ k b f. absurd (never k b f);
      idle = λ k b f. get_or-replicate 64 k 0 0 (omega arith);
      parts = λ n b. omega (
        arith,
        sum_zeros nodes (λ k. only (is (replicate 64 false) k && eqb (at (replicate 64 0) k) n) (at (replicate 64 0) k))
            (λ k c. ap (λ (f : Bool). only (f && eqb (at (replicate 64 0) k) n) (at (replicate 64 0) k)) (none_yet k c)),
      );
      inside = λ k b f. absurd (never k b f);
      apart = λ k b f. absurd (never k b f);
      past = λ k b f. absurd (never k b f);
      later = λ k b f. absurd (never k b f);
      left = (0, some, none_yet 0 some);
    };
  }
