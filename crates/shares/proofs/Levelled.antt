-- What one particle after another leads to, and that nothing else is like it: nobody who got a particle stands more than one above a
-- member that still has space, or at all above one of lower number. Assumes nothing.
use mathlib.Core.Path.{◌≡◌, refl, sym, ap, ◌∙◌}
use mathlib.Core.Logic.{◌≢◌}
use mathlib.Core.Bool.{Bool, true}
use mathlib.Core.List.{List}
use Prim.Native.Nat.{ℕ, zero, suc, ◌+◌, ◌≤◌, ◌<◌, min}
use native.Mathlib.Nat.{add-zero, zero-add}
use native.Mathlib.Decide.{ℕ_discrete, dec_lt}
use native.Mathlib.Omega.{arith}
use lib.Dec.{ltb}
use lib.ListN.{length, set, length-set}
use lib.Seq.{get_or-set_same, get_or-set_other}
use borrow.Author.Tests.{lt-ltb, ltb-true, ltb-false}
use Rattle.fold.specs.Sum.{sum}
use Rattle.fold.specs.Best.{smaller}
use Rattle.fold.proofs.Sums.{sum-le, sum-eq, sum-add, sum-above, sum-set}
use Rattle.fold.proofs.Scans.{best-found, best-nothing, smallest-le, smallest-lt}
use Rattle.arrays.specs.Arrays.{at}
use Rattle.shares.specs.Fill.{room, standing_load, has_space, chosen, given, fill}
use Rattle.std.specs.Prelude.{None, Option, Some}

-- a particle more, or none, leaves the array as long as it was
given-length : (r : Option ℕ) (xs : List ℕ) → length (given r xs) ≡ length xs
given-length (Some k) xs = simp length-set
given-length None xs = refl

-- The members have got so much of the rest, or all that they have room for, and whoever got a particle stood, before its last one, no
-- higher than anybody who still has space, and lower than those of them that have a lower number.
pub record Levelled (nodes : ℕ) (beside space kept : ℕ → ℕ) (rest : ℕ) (amount : ℕ → ℕ) : Type 0 where
  pub keeps : (k : ℕ) → k < nodes → kept k ≤ amount k
  pub fits : (k : ℕ) → k < nodes → amount k ≤ kept k + room space kept k
  pub adds : sum nodes amount ≡ sum nodes kept + min rest (sum nodes (room space kept))
  pub near : (j k : ℕ) → j < nodes → k < nodes → kept j < amount j → amount k < space k
      → standing_load beside amount j ≤ standing_load beside amount k + 1
  pub ties : (j k : ℕ) → j < nodes → k < j → kept j < amount j → amount k < space k
      → standing_load beside amount j ≤ standing_load beside amount k

-- ---- there is but one such division

module _ {nodes : ℕ} {beside space kept : ℕ → ℕ} {rest : ℕ} where
  not-above : {a b : ℕ → ℕ} → Levelled nodes beside space kept rest a → Levelled nodes beside space kept rest b
      → (i : ℕ) → i < nodes → b i < a i → ⊥
  not-above {a} {b} p q i l h = against (sum-above nodes a b i l (p.adds ∙ sym q.adds) h)
    where
      against : (k : ℕ) × (k < nodes) × (a k < b k) → ⊥
      against (k, lk, g) =
          let got : kept i < a i = omega (arith, q.keeps i l) in
          let has : a k < space k = omega (arith, q.fits k lk, p.keeps k lk) in
          let got' : kept k < b k = omega (arith, p.keeps k lk) in
          let has' : b i < space i = omega (arith, p.fits i l, q.keeps i l) in
          elim (dec_lt k i) [
            | yes c ↦ omega (arith, p.ties i k l c got has, q.near k i lk l got' has')
            | no d ↦ elim (ℕ_discrete i k) [
              | yes e ↦ omega (arith, ap a e, ap b e)
              | no n ↦ omega (arith, p.near i k l lk got has, q.ties k i lk (omega arith) got' has')
            ]
          ]

  pub levelled-one : {a b : ℕ → ℕ} → Levelled nodes beside space kept rest a → Levelled nodes beside space kept rest b
      → (k : ℕ) → k < nodes → a k ≡ b k
  levelled-one p q k l = omega (arith, not-above p q k l, not-above q p k l)

-- only what is true of the nodes matters
pub levelled-eq : {nodes : ℕ} {beside beside' space space' kept kept' : ℕ → ℕ} {rest : ℕ} {a : ℕ → ℕ}
    → Levelled nodes beside space kept rest a → ((k : ℕ) → k < nodes → beside k ≡ beside' k)
    → ((k : ℕ) → k < nodes → space k ≡ space' k) → ((k : ℕ) → k < nodes → kept k ≡ kept' k)
    → Levelled nodes beside' space' kept' rest a
levelled-eq {nodes} {beside} {beside'} {space} {space'} {kept} {kept'} p b s e =
    record {
      keeps = λ k l. omega (arith, p.keeps k l, e k l);
      fits = λ k l. omega (arith, p.fits k l, s k l, e k l);
      adds =
          omega (
            arith,
            p.adds,
            sum-eq nodes kept kept' e,
            sum-eq nodes (room space kept) (room space' kept') (λ k l. omega (arith, s k l, e k l)),
          );
      near = λ j k lj lk g h.
          omega (arith, p.near j k lj lk (omega (arith, e j lj)) (omega (arith, s k lk)), b j lj, b k lk);
      ties = λ j k lj c g h.
          let lk : k < nodes = omega arith in
          omega (arith, p.ties j k lj c (omega (arith, e j lj)) (omega (arith, s k lk)), b j lj, b k lk);
    }

-- ---- one particle after another leads to it

-- all that can be given
most-given : (nodes : ℕ) (space kept a : ℕ → ℕ) → ((k : ℕ) → k < nodes → a k ≤ kept k + room space kept k)
    → sum nodes a ≤ sum nodes kept + sum nodes (room space kept)
most-given nodes space kept a h = omega (arith, sum-le nodes a (λ k. kept k + room space kept k) h, sum-add nodes kept (room space kept))

module _ {nodes : ℕ} {beside space kept : ℕ → ℕ} where
  -- before the first one
  levelled-none : Levelled nodes beside space kept 0 kept
  levelled-none = record {
    keeps = λ k l. omega arith;
    fits = λ k l. omega arith;
    adds = omega arith;
    near = λ j k lj lk h. absurd (omega arith);
    ties = λ j k lj lk h. absurd (omega arith);
  }

  module _ {rest : ℕ} (xs : List ℕ) (p : Levelled nodes beside space kept rest (at xs)) where
    -- nobody has space
    none-chosen : ((k : ℕ) → k < nodes → space k ≤ at xs k) → Levelled nodes beside space kept (suc rest) (at xs)
    none-chosen full = record {
      keeps = p.keeps;
      fits = p.fits;
      adds = omega (
        arith,
        p.adds,
        sum-le nodes (λ k. kept k + room space kept k) (at xs) (λ k l. omega (arith, full k l, p.keeps k l)),
        sum-add nodes kept (room space kept),
      );
      near = p.near;
      ties = p.ties;
    }

    -- b is given one more
    module _ (b : ℕ) (few : nodes ≤ length xs) (lb : b < nodes) (space-left : at xs b < space b)
        (low : (k : ℕ) → k < nodes → at xs k < space k → standing_load beside (at xs) b ≤ standing_load beside (at xs) k)
        (first : (k : ℕ) → k < b → at xs k < space k → standing_load beside (at xs) b < standing_load beside (at xs) k) where
      more : ℕ → ℕ
      more = at (set xs b (at xs b + 1))

      same : more b ≡ at xs b + 1
      unfolding more
      same = get_or-set_same xs b (at xs b + 1) 0 (omega arith)

      other : (k : ℕ) → k ≢ b → more k ≡ at xs k
      unfolding more
      other k d = get_or-set_other xs b k (at xs b + 1) 0 d

      grows : (k : ℕ) → at xs k ≤ more k
      grows k = elim (ℕ_discrete k b) [
        | yes e ↦ omega (arith, same, ap more e, ap (at xs) e)
        | no d ↦ omega (arith, other k d)
      ]

      fits_still : (k : ℕ) → k < nodes → more k ≤ kept k + room space kept k
      fits_still k l = elim (ℕ_discrete k b) [
        | yes e ↦ omega (arith, same, ap more e, ap kept e, ap space e)
        | no d ↦ omega (arith, other k d, p.fits k l)
      ]

      one-given : Levelled nodes beside space kept (suc rest) more
      one-given = record {
        keeps = λ k l. omega (arith, p.keeps k l, grows k);
        fits = fits_still;
        adds = omega (arith, p.adds, most-given nodes space kept more fits_still, sums);
        near = λ j k lj lk g h. elim (ℕ_discrete j b) [
          | yes e ↦ omega (arith, low k lk (omega (arith, grows k)), grows k, same, ap more e, ap beside e)
          | no d ↦ omega (arith, p.near j k lj lk (omega (arith, other j d)) (omega (arith, grows k)), grows k, other j d)
        ];
        ties = λ j k lj lk g h. elim (ℕ_discrete j b) [
          | yes e ↦ omega (arith, first k (omega (arith, e)) (omega (arith, grows k)), grows k, same, ap more e, ap beside e)
          | no d ↦ omega (arith, p.ties j k lj lk (omega (arith, other j d)) (omega (arith, grows k)), grows k, other j d)
        ];
      }
        where
          sums : sum nodes more ≡ sum nodes (at xs) + 1
          sums = unfold more in omega (arith, sum-set nodes xs b (at xs b + 1) lb (omega arith))

    by_choice : (r : Option ℕ) → chosen nodes beside space xs ≡ r → nodes ≤ length xs
        → Levelled nodes beside space kept (suc rest) (at (given r xs))
    unfolding chosen
    by_choice None e few =
        none-chosen
        (λ k l. ltb-false (at xs k) (space k) (best-nothing (has_space space (at xs)) (smaller (standing_load beside (at xs))) nodes e k l))
    by_choice (Some b) e few = unfold more in one-given b few found.0 (ltb-true (at xs b) (space b) found.1)
        (λ k l h. smallest-le ok f nodes b e k l (lt-ltb (at xs k) (space k) h))
        (λ k l h. smallest-lt ok f nodes b e k (omega (arith, found.0)) (lt-ltb (at xs k) (space k) h) l)
      where
        ok : ℕ → Bool
        ok = has_space space (at xs)

        f : ℕ → ℕ
        f = standing_load beside (at xs)

        found : (b < nodes) × (ok b ≡ true)
        found = best-found ok (smaller f) nodes b e

  -- and so on
  after : (before rest : ℕ) (xs : List ℕ) → nodes ≤ length xs → Levelled nodes beside space kept before (at xs)
      → Levelled nodes beside space kept (before + rest) (at (fill nodes beside space xs rest))
  unfolding fill
  after before zero xs few p = rw add-zero p
  after before (suc rest) xs few p =
      let r = chosen nodes beside space xs in
      let e : before + suc rest ≡ suc before + rest = omega arith in
      rw e (after (suc before) rest (given r xs) (rw given-length few) (by_choice xs p r refl few))

-- THEOREM. One particle after another leads to it.
pub fill-levelled : (nodes : ℕ) (beside space : ℕ → ℕ) (kept : List ℕ) (rest : ℕ) → nodes ≤ length kept
    → Levelled nodes beside space (at kept) rest (at (fill nodes beside space kept rest))
fill-levelled nodes beside space kept rest few =
    let p : Levelled nodes beside space (at kept) 0 (at kept) = levelled-none in
    rw (zero-add rest) at (after 0 rest kept few p)

-- ---- the array is as long as it was, and its entries behind the nodes are what they were

module _ (nodes : ℕ) (beside space : ℕ → ℕ) where
  pub fill-length : (rest : ℕ) (xs : List ℕ) → length (fill nodes beside space xs rest) ≡ length xs
  unfolding fill
  fill-length zero xs = refl
  fill-length (suc rest) xs =
      let r = chosen nodes beside space xs in
      fill-length rest (given r xs) ∙ given-length r xs

  given-behind : (xs : List ℕ) (r : Option ℕ) → chosen nodes beside space xs ≡ r → (k : ℕ) → nodes ≤ k → at (given r xs) k ≡ at xs k
  unfolding chosen
  given-behind xs None e k l = refl
  given-behind xs (Some b) e k l = get_or-set_other xs b k (at xs b + 1) 0 (λ q. omega (arith, below.0))
    where
      below : (b < nodes) × (ltb (at xs b) (space b) ≡ true)
      below = best-found (has_space space (at xs)) (smaller (standing_load beside (at xs))) nodes b e

  pub fill-behind : (rest : ℕ) (xs : List ℕ) (k : ℕ) → nodes ≤ k → at (fill nodes beside space xs rest) k ≡ at xs k
  unfolding fill
  fill-behind zero xs k l = refl
  fill-behind (suc rest) xs k l =
      let r = chosen nodes beside space xs in
      fill-behind rest (given r xs) k l ∙ given-behind xs r refl k l
