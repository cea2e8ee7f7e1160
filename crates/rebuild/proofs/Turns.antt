-- The invariant of a rebuilding, over functions, and that a turn keeps it: the loads of the unfinished nodes add up to their targets, a
-- finished node has its target, and each helpand finishes later than its helper. Assumes nothing.
use mathlib.Core.Path.{◌≡◌, refl, sym, ap, ◌∙◌}
use mathlib.Core.Logic.{◌≢◌, ◌⊎◌, inl, inr}
use mathlib.Core.Bool.{Bool, true, false, not, ◌&&◌, cond, true≢false}
use Prim.Native.Nat.{ℕ, suc, ◌+◌, ◌-◌, ◌≤◌, ◌<◌}
use native.Mathlib.Decide.{ℕ_discrete}
use native.Mathlib.Omega.{arith}
use lib.Dec.{eqb}
use borrow.Author.Tests.{eq-eqb, ne_eqb}
use Rattle.fold.specs.Sum.{only, sum}
use Rattle.fold.proofs.Tests.{either, only-is, only-not}
use Rattle.fold.proofs.Sums.{sum-at, sum-above}

-- g is f but for v at i
pub record Changed {A : Type 0} (f g : ℕ → A) (i : ℕ) (v : A) : Type 0 where
  pub here : g i ≡ v
  pub other : (k : ℕ) → k ≢ i → g k ≡ f k

-- l finishes in turn t
unfoldable pub stamp : (ℕ → ℕ) → ℕ → ℕ → ℕ → ℕ
stamp time l t k = cond (eqb k l) t (time k)

module _ (nodes : ℕ) (total target : ℕ → ℕ) where
  -- after t turns; node k finished in turn `time k`
  pub record Inv (load : ℕ → ℕ) (done : ℕ → Bool) (helpand share : ℕ → ℕ) (t : ℕ) (time : ℕ → ℕ) : Type 0 where
    pub even : sum nodes (λ k. only (not (done k)) (load k)) ≡ sum nodes (λ k. only (not (done k)) (target k))
    pub count : sum nodes (λ k. only (done k) 1) ≡ t
    pub met : (k : ℕ) → k < nodes → done k ≡ true → load k + share k ≡ target k
    pub idle : (k : ℕ) → k < nodes → done k ≡ false → share k ≡ 0
    pub parts : (n : ℕ) → n < nodes → load n + sum nodes (λ k. only (done k && eqb (helpand k) n) (share k)) ≡ total n
    pub inside : (k : ℕ) → k < nodes → done k ≡ true → helpand k < nodes
    pub apart : (k : ℕ) → k < nodes → done k ≡ true → helpand k ≢ k
    pub past : (k : ℕ) → k < nodes → done k ≡ true → time k < t
    pub later : (k : ℕ) → k < nodes → done k ≡ true → done (helpand k) ≡ true → time k < time (helpand k)
    pub left : (k : ℕ) × (k < nodes) × (done k ≡ false)

  module _ (load : ℕ → ℕ) (done : ℕ → Bool) (helpand share : ℕ → ℕ) (t : ℕ) (time : ℕ → ℕ) (v : Inv load done helpand share t time) where
    -- an unfinished node under its target leaves another above its own
    pub above : (l : ℕ) → l < nodes → done l ≡ false → load l < target l → (g : ℕ) × (g < nodes) × (done g ≡ false) × (target g < load g)
    above l b o h =
        found
        (sum-above nodes (λ k. only (not (done k)) (target k)) (λ k. only (not (done k)) (load k)) l b (sym v.even)
        (omega (arith, only-is (not (done l)) (target l) (ap not o), only-is (not (done l)) (load l) (ap not o))))
      where
        found : (k : ℕ) × (k < nodes) × (only (not (done k)) (target k) < only (not (done k)) (load k))
            → (g : ℕ) × (g < nodes) × (done g ≡ false) × (target g < load g)
        found r = split (either (done r.0))
          where
            split : (done r.0 ≡ true) ⊎ (done r.0 ≡ false) → (g : ℕ) × (g < nodes) × (done g ≡ false) × (target g < load g)
            split (inl e) = absurd (omega (arith, only-not (not (done r.0)) (load r.0) (ap not e), r.2))
            split (inr e) = (
              r.0,
              r.1,
              e,
              let in-turn : (x : ℕ) → only (not (done r.0)) x ≡ x = λ x. only-is (not (done r.0)) x (ap not e) in
                  omega (arith, r.2, in-turn (target r.0), in-turn (load r.0)),
            )

    -- with no unfinished node under its target, each has just that
    pub level : ((k : ℕ) → k < nodes → done k ≡ false → target k ≤ load k) → (k : ℕ) → k < nodes → done k ≡ false → load k ≡ target k
    level a k b o = elim (ℕ_discrete (load k) (target k)) [
      | yes e ↦ e
      | no d ↦ absurd (found (sum-above nodes (λ k. only (not (done k)) (load k)) (λ k. only (not (done k)) (target k)) k b v.even
          (omega (arith, a k b o, only-is (not (done k)) (target k) (ap not o), only-is (not (done k)) (load k) (ap not o)))))
    ]
      where
        found : (k : ℕ) × (k < nodes) × (only (not (done k)) (load k) < only (not (done k)) (target k)) → ⊥
        found r = split (either (done r.0))
          where
            split : (done r.0 ≡ true) ⊎ (done r.0 ≡ false) → ⊥
            split (inl e) = omega (arith, only-not (not (done r.0)) (target r.0) (ap not e), r.2)
            split (inr e) =
                omega (
                  arith,
                  r.2,
                  a r.0 r.1 e,
                  only-is (not (done r.0)) (target r.0) (ap not e),
                  only-is (not (done r.0)) (load r.0) (ap not e),
                )

    -- one turn
    module _ (l g need : ℕ)
        (bl : l < nodes)
        (bg : g < nodes)
        (lg : l ≢ g)
        (ol : done l ≡ false)
        (og : done g ≡ false)
        (meets : load l + need ≡ target l)
        (enough : need ≤ load g)
        (load' : ℕ → ℕ)
        (done' : ℕ → Bool)
        (helpand' share' : ℕ → ℕ)
        (cl : Changed load load' g (load g - need))
        (cd : Changed done done' l true)
        (ch : Changed helpand helpand' l g)
        (cs : Changed share share' l need) where
      time_l : stamp time l t l ≡ t
      unfolding stamp
      time_l = ap (λ (b : Bool). cond b t (time l)) (eq-eqb l l refl)

      time_other : (k : ℕ) → k ≢ l → stamp time l t k ≡ time k
      unfolding stamp
      time_other k d = ap (λ (b : Bool). cond b t (time k)) (ne_eqb k l d)

      gl : g ≢ l
      gl e = lg (sym e)

      -- who is finished after the turn and is not l was so before, and is not g
      was : (k : ℕ) → k ≢ l → done' k ≡ true → done k ≡ true
      was k d e = sym (cd.other k d) ∙ e

      not_g : (k : ℕ) → done k ≡ true → k ≢ g
      not_g k e q = true≢false (sym e ∙ ap done q ∙ og)

      not_l : (k : ℕ) → done' k ≡ false → k ≢ l
      not_l k e q = true≢false (sym (ap done' q ∙ cd.here) ∙ e)

      load_l : load' l ≡ load l
      load_l = cl.other l lg

      even' : sum nodes (λ k. only (not (done' k)) (load' k)) ≡ sum nodes (λ k. only (not (done' k)) (target k))
      even' =
          omega (
            arith,
            v.even,
            meets,
            enough,
            cl.here,
            load_l,
            sum-at nodes (λ k. only (not (done k)) (load' k)) (λ k. only (not (done k)) (load k)) g bg
                (λ k b d. ap (only (not (done k))) (cl.other k d)),
            only-is (not (done g)) (load g) (ap not og),
            only-is (not (done g)) (load' g) (ap not og),
            sum-at nodes (λ k. only (not (done' k)) (load' k)) (λ k. only (not (done k)) (load' k)) l bl
                (λ k b d. ap (λ (c : Bool). only (not c) (load' k)) (cd.other k d)),
            only-is (not (done l)) (load' l) (ap not ol),
            only-not (not (done' l)) (load' l) (ap not cd.here),
            sum-at nodes (λ k. only (not (done' k)) (target k)) (λ k. only (not (done k)) (target k)) l bl
                (λ k b d. ap (λ (c : Bool). only (not c) (target k)) (cd.other k d)),
            only-is (not (done l)) (target l) (ap not ol),
            only-not (not (done' l)) (target l) (ap not cd.here),
          )

      count' : sum nodes (λ k. only (done' k) 1) ≡ suc t
      count' =
          omega (
            arith,
            v.count,
            sum-at nodes (λ k. only (done' k) 1) (λ k. only (done k) 1) l bl (λ k b d. ap (λ (c : Bool). only c 1) (cd.other k d)),
            only-not (done l) 1 ol,
            only-is (done' l) 1 cd.here,
          )

      met' : (k : ℕ) → k < nodes → done' k ≡ true → load' k + share' k ≡ target k
      met' k b e = elim (ℕ_discrete k l) [
        | yes q ↦ rw q (omega (arith, load_l, cs.here, meets))
        | no d ↦ omega (arith, cl.other k (not_g k (was k d e)), cs.other k d, v.met k b (was k d e))
      ]

      idle' : (k : ℕ) → k < nodes → done' k ≡ false → share' k ≡ 0
      idle' k b e = cs.other k (not_l k e) ∙ v.idle k b (sym (cd.other k (not_l k e)) ∙ e)

      gives : (n : ℕ) → sum nodes (λ k. only (done' k && eqb (helpand' k) n) (share' k))
          ≡ sum nodes (λ k. only (done k && eqb (helpand k) n) (share k)) + only (eqb g n) need
      gives n =
          omega (
            arith,
            sum-at nodes (λ k. only (done' k && eqb (helpand' k) n) (share' k)) (λ k. only (done k && eqb (helpand k) n) (share k)) l bl
                (λ k b d. same k d),
            ap (λ (c : Bool). only (c && eqb (helpand l) n) (share l)) ol,
            new,
          )
        where
          same : (k : ℕ) → k ≢ l → only (done' k && eqb (helpand' k) n) (share' k) ≡ only (done k && eqb (helpand k) n) (share k)
          same k d = rw (cd.other k d, ch.other k d, cs.other k d)

          new : only (done' l && eqb (helpand' l) n) (share' l) ≡ only (eqb g n) need
          new = rw (cd.here, ch.here, cs.here)

      parts' : (n : ℕ) → n < nodes → load' n + sum nodes (λ k. only (done' k && eqb (helpand' k) n) (share' k)) ≡ total n
      parts' n b = elim (ℕ_discrete n g) [
        | yes q ↦ omega (arith, gives n, only-is (eqb g n) need (eq-eqb g n (sym q)), v.parts n b, ap load q, ap load' q, cl.here, enough)
        | no d ↦ omega (arith, gives n, only-not (eqb g n) need (ne_eqb g n (λ e. d (sym e))), v.parts n b, cl.other n d)
      ]

      inside' : (k : ℕ) → k < nodes → done' k ≡ true → helpand' k < nodes
      inside' k b e = elim (ℕ_discrete k l) [
        | yes q ↦ rw (q, ch.here) bg
        | no d ↦ rw (ch.other k d) (v.inside k b (was k d e))
      ]

      apart' : (k : ℕ) → k < nodes → done' k ≡ true → helpand' k ≢ k
      apart' k b e = elim (ℕ_discrete k l) [
        | yes q ↦ rw (q, ch.here) gl
        | no d ↦ rw (ch.other k d) (v.apart k b (was k d e))
      ]

      past' : (k : ℕ) → k < nodes → done' k ≡ true → stamp time l t k < suc t
      past' k b e = elim (ℕ_discrete k l) [
        | yes q ↦ rw q (omega (arith, time_l))
        | no d ↦ omega (arith, time_other k d, v.past k b (was k d e))
      ]

      later' : (k : ℕ) → k < nodes → done' k ≡ true → done' (helpand' k) ≡ true → stamp time l t k < stamp time l t (helpand' k)
      later' k b e f = elim (ℕ_discrete k l) [
        | yes q ↦ absurd (true≢false (sym f ∙ ap (λ (x : ℕ). done' (helpand' x)) q ∙ ap done' ch.here ∙ cd.other g gl ∙ og))
        | no d ↦ elim (ℕ_discrete (helpand k) l) [
          | yes q ↦ rw (ch.other k d, q) (omega (arith, time_l, time_other k d, v.past k b (was k d e)))
          | no c ↦ rw (ch.other k d) (omega (
            arith,
            time_other k d,
            time_other (helpand k) c,
            v.later k b (was k d e) (was (helpand k) c (ap done' (sym (ch.other k d)) ∙ f)),
          ))
        ]
      ]

      pub turned : Inv load' done' helpand' share' (suc t) (stamp time l t)
      turned = record {
        even = even';
        count = count';
        met = met';
        idle = idle';
        parts = parts';
        inside = inside';
        apart = apart';
        past = past';
        later = later';
        left = (g, bg, cd.other g gl ∙ og);
      }
