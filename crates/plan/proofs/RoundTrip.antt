-- A plan that was written is read back as what was written, and an accepted plan is written as the same bytes: words to bytes and
-- back changes nothing, nor does bytes to words and back. Assumes nothing.
use mathlib.Core.Path.{◌≡◌, refl, sym, ap, ◌∙◌}
use mathlib.Core.Logic.{◌≢◌, ◌⊎◌, inl, inr}
use mathlib.Core.Bool.{true}
use mathlib.Core.List.{List, [], ◌∷◌}
use Prim.Native.Nat.{ℕ, ◌+◌, ◌≤◌, ◌<◌, ◌^◌}
use native.Mathlib.Omega.{arith}
use borrow.Author.Tests.{ltb-true, lt-ltb, eq-eqb}
use lib.Dec.{ltb}
use lib.ListN.{length, get_or, take, drop}
use lib.Seq.{length-take-le, get_or-take, take-take}
use Rattle.fold.proofs.Tests.{all-at, all_of}
use Rattle.limit.specs.Limit.{max_nodes, max_limit}
use Rattle.words.specs.Words.{words}
use Rattle.words.proofs.Words.{Below}
use Rattle.words.proofs.Records.{Back, below_three, take_three, record_back, record_again}
use Rattle.plan.specs.Tree.{helpands_below, is_root, shape_fine, shares_fine, Tree}
use Rattle.plan.specs.Plan.{accepted, helpands_of, shares_of, read_plan}
use Rattle.plan.specs.Write.{plan_words, plan_bytes}
use Rattle.plan.proofs.Accepted.{plan-accepted, accepted-read, words_are}
use Rattle.plan.proofs.Agree.{below_agree, shape_agree, shares_agree}
use Rattle.plan.proofs.Shares.{shares_fine_lem, share-limit}
use Rattle.plan.proofs.Trees.{tree-alone, tree-below, tree_shape}
use Rattle.plan.proofs.Writing.{length-plan}
use Rattle.arrays.specs.Arrays.{at}

-- ---- what can be written

pub record Writable (n kind limit : ℕ) (helpands shares : List ℕ) : Type 0 where
  pub n_low : 1 ≤ n
  pub n_high : n ≤ max_nodes
  pub kind_high : kind ≤ 2
  pub alone : (kind ≡ 0) ⊎ (n ≢ 1)
  pub limit_high : limit ≤ max_limit
  pub helpands_long : n ≤ length helpands
  pub shares_long : n ≤ length shares
  pub below : helpands_below n (at helpands) ≡ true
  pub shape : shape_fine n kind (at helpands) ≡ true
  pub shares_right : shares_fine n limit (at helpands) (at shares) ≡ true

-- and what is then read
pub record ReadBack (n kind limit : ℕ) (helpands shares : List ℕ) : Type 0 where
  pub answer : read_plan (plan_bytes n kind limit helpands shares) ≡ accepted n kind limit
  pub helpands_back : helpands_of (plan_bytes n kind limit helpands shares) n ≡ take n helpands
  pub shares_back : shares_of (plan_bytes n kind limit helpands shares) n ≡ take n shares

module _ (n kind limit : ℕ) (helpands shares : List ℕ) (w : Writable n kind limit helpands shares) where
  helpands_fit : Below (2 ^ 32) (take n helpands)
  helpands_fit i l =
      let k : i < n = omega (arith, length-take-le n helpands w.helpands_long) in
      omega
      (arith, get_or-take n helpands i 0 k, ltb-true (at helpands i) n (all-at n (λ j. ltb (at helpands j) n) w.below i k), w.n_high)

  shares_fit : Below (2 ^ 32) (take n shares)
  shares_fit i l =
      let k : i < n = omega (arith, length-take-le n shares w.shares_long) in
      omega (arith, get_or-take n shares i 0 k, share-limit n limit (at helpands) (at shares) w.shares_right i k, w.limit_high)

  back : Back (n ∷ kind ∷ limit ∷ []) (take n helpands) (take n shares) n
  back =
      record_back (n ∷ kind ∷ limit ∷ []) (take n helpands) (take n shares) n (length-take-le n helpands w.helpands_long)
      (length-take-le n shares w.shares_long)
      (below_three (2 ^ 32) n kind limit (omega (arith, w.n_high)) (omega (arith, w.kind_high)) (omega (arith, w.limit_high)))
      helpands_fit shares_fit

  words_back : words (plan_bytes n kind limit helpands shares) ≡ plan_words n kind limit helpands shares
  unfolding plan_bytes
  words_back = back.all

  written-helpands : helpands_of (plan_bytes n kind limit helpands shares) n ≡ take n helpands
  unfolding plan_bytes
  written-helpands = back.first

  written-shares : shares_of (plan_bytes n kind limit helpands shares) n ≡ take n shares
  unfolding plan_bytes
  written-shares = back.second

  -- the entries that count
  same-helpands : (k : ℕ) → k < n → at helpands k ≡ at (helpands_of (plan_bytes n kind limit helpands shares) n) k
  same-helpands k l = rw written-helpands (sym (get_or-take n helpands k 0 l))

  same-shares : (k : ℕ) → k < n → at shares k ≡ at (shares_of (plan_bytes n kind limit helpands shares) n) k
  same-shares k l = rw written-shares (sym (get_or-take n shares k 0 l))

  -- THEOREM: What can be written is read back.
  pub read-written : ReadBack n kind limit helpands shares
  read-written =
      let s = plan_bytes n kind limit helpands shares in
      let h = at (helpands_of s n) in
      record {
        answer = accepted-read s (accepted n kind limit) (record {
          answer = refl;
          n_is = ap (λ (ws : List ℕ). get_or ws 0 0) (sym words_back);
          kind_is = ap (λ (ws : List ℕ). get_or ws 1 0) (sym words_back);
          limit_is = ap (λ (ws : List ℕ). get_or ws 2 0) (sym words_back);
          n_low = w.n_low;
          n_high = w.n_high;
          kind_high = w.kind_high;
          alone = w.alone;
          limit_high = w.limit_high;
          size = length-plan n kind limit helpands shares w.helpands_long w.shares_long;
          below = sym (below_agree n (at helpands) h same-helpands) ∙ w.below;
          shape = sym (shape_agree n (at helpands) h same-helpands w.below kind) ∙ w.shape;
          shares = sym (shares_agree n (at helpands) h same-helpands limit (at shares) (at (shares_of s n)) same-shares) ∙ w.shares_right;
        });
        helpands_back = written-helpands;
        shares_back = written-shares;
      }

module _ (n limit : ℕ) (helpands shares : List ℕ)
    (high : n ≤ max_nodes)
    (lim : limit ≤ max_limit)
    (lh : n ≤ length helpands)
    (ls : n ≤ length shares) where
  -- THEOREM: A plan of kind 1 or 2 that is written of a tree, with no share above the limit and share 0 at the root, is read back.
  pub tree-read-written : (kind r : ℕ) → kind ≢ 0 → kind ≤ 2 → n ≢ 1 → Tree n (at helpands) r
      → ((k : ℕ) → k < n → at shares k ≤ limit) → at shares r ≡ 0
      → ReadBack n kind limit helpands shares
  tree-read-written kind r d two d₁ t l z =
      read-written n kind limit helpands shares
      (record {
        n_low = omega (arith, t.root);
        n_high = high;
        kind_high = two;
        alone = inr d₁;
        limit_high = lim;
        helpands_long = lh;
        shares_long = ls;
        below = tree-below t;
        shape = tree_shape t kind d;
        shares_right = shares_fine_lem n limit (at helpands) (at shares) l (λ k b e. ap (at shares) (tree-alone t k b e) ∙ z);
      })

  -- THEOREM: A plan of kind 0 that is written of roots alone, each with share 0, is read back.
  pub roots-read-written : 1 ≤ n → ((k : ℕ) → k < n → at helpands k ≡ k) → ((k : ℕ) → k < n → at shares k ≡ 0)
      → ReadBack n 0 limit helpands shares
  roots-read-written low o z =
      read-written n 0 limit helpands shares
      (record {
        n_low = low;
        n_high = high;
        kind_high = omega arith;
        alone = inl refl;
        limit_high = lim;
        helpands_long = lh;
        shares_long = ls;
        below = all_of n (λ k. ltb (at helpands k) n) (λ k l. lt-ltb (at helpands k) n (omega (arith, o k l)));
        shape = all_of n (is_root (at helpands)) (λ k l. eq-eqb (at helpands k) k (o k l));
        shares_right = shares_fine_lem n limit (at helpands) (at shares) (λ k l. omega (arith, z k l)) (λ k l e. z k l);
      })

-- ---- the other way

-- THEOREM: An accepted plan is the plan of its own N, kind, limit, helpands and shares, byte for byte.
pub written_read : (s : List ℕ) → Below 256 s → (read_plan s).refusal ≡ 0 →
    let a = read_plan s in
    plan_bytes a.n a.kind a.limit (helpands_of s a.n) (shares_of s a.n) ≡ s
unfolding plan_bytes
written_read s b q =
    let a = read_plan s in
    let k = plan-accepted s q in
    let same : a.n ≤ a.n = omega arith in
    rw (take-take a.n a.n (drop 3 (words s)) same, take-take a.n a.n (drop (3 + a.n) (words s)) same)
    (record_again s (a.n ∷ a.kind ∷ a.limit ∷ []) 3 a.n b k.size
    (rw (k.n_is, k.kind_is, k.limit_is) (sym (take_three (words s) (omega (arith, words_are s a k))))))
