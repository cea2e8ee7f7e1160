-- Why any filling of a tree's families, from the root down, is a division within the limit: each member of a family gets at most its
-- space, and the amounts add up. Nothing here says how the amounts are found, and any numbers may stand for the leasts. Assumes nothing.
use mathlib.Core.Path.{◌≡◌, refl, sym, ap, ◌∙◌}
use mathlib.Core.Logic.{◌≢◌}
use mathlib.Core.Bool.{true, not}
use Prim.Native.Nat.{ℕ, zero, suc, ◌+◌, ◌-◌, ◌≤◌, ◌<◌}
use native.Mathlib.Decide.{ℕ_discrete}
use native.Mathlib.Omega.{arith}
use borrow.Author.Tests.{eq-eqb, ne_eqb}
use Rattle.fold.proofs.Tests.{only-max}
use Rattle.plan.specs.Tree.{is_root, walk, Tree}
use Rattle.plan.proofs.Trees.{walk_none, walk_more}
use Rattle.tree.specs.Family.{helps, over_helpers}
use Rattle.tree.specs.Down.{down, Descends}
use Rattle.tree.specs.Division.{WithinLimit, own_of}
use Rattle.tree.proofs.Families.{helps_of, helper-below, helps-helpand, helpers_eq}

-- ---- shares from the root down: the depth does not matter

module _ (nodes : ℕ) (h : ℕ → ℕ) (fill : ℕ → ℕ → ℕ → ℕ) where
  down-root : (depth k : ℕ) → h k ≡ k → down h fill depth k ≡ 0
  unfolding down
  down-root zero k e = refl
  down-root (suc depth) k e = rw (eq-eqb (h k) k e)

  down-helper : (depth k : ℕ) → h k ≢ k → down h fill (suc depth) k ≡ fill (down h fill depth (h k)) (h k) k
  unfolding down
  down-helper depth k d = rw (ne_eqb (h k) k d)

  -- one level more changes nothing where the chain has come to a root
  steady : (depth k : ℕ) → h (walk h depth k) ≡ walk h depth k → down h fill (suc depth) k ≡ down h fill depth k
  steady zero k e = down-root 1 k (rw (walk_none h k) at e) ∙ sym (down-root 0 k (rw (walk_none h k) at e))
  steady (suc depth) k e = elim (ℕ_discrete (h k) k) [
    | yes o ↦ down-root (suc (suc depth)) k o ∙ sym (down-root (suc depth) k o)
    | no d ↦ down-helper (suc depth) k d
        ∙ ap (λ (r : ℕ). fill r (h k) k) (steady depth (h k) (rw (walk_more h depth k) at e))
        ∙ sym (down-helper depth k d)
  ]

  -- other shares from the root down are the same there
  settled : (share : ℕ → ℕ) → Descends nodes h fill share → ((k : ℕ) → k < nodes → h k < nodes)
      → (depth k : ℕ) → k < nodes → h (walk h depth k) ≡ walk h depth k → share k ≡ down h fill depth k
  settled share s i zero k l e = s.root k l (rw (walk_none h k) at e) ∙ sym (down-root 0 k (rw (walk_none h k) at e))
  settled share s i (suc depth) k l e = elim (ℕ_discrete (h k) k) [
    | yes o ↦ s.root k l o ∙ sym (down-root (suc depth) k o)
    | no d ↦ s.helper k l d
        ∙ ap (λ (r : ℕ). fill r (h k) k) (settled share s i depth (h k) (i k l) (rw (walk_more h depth k) at e))
        ∙ sym (down-helper depth k d)
  ]

  module _ (r : ℕ) (t : Tree nodes h r) where
    enough : (k : ℕ) → k < nodes → h (walk h nodes k) ≡ walk h nodes k
    enough k l = rw (t.reach k l) t.own

    -- THEOREM. In a tree there are shares from the root down, by any way to fill a family.
    pub down_descends : Descends nodes h fill (down h fill nodes)
    down_descends =
        record { root = λ k l e. down-root nodes k e; helper = λ k l d. sym (steady nodes k (enough k l)) ∙ down-helper nodes k d }

    -- THEOREM. There are no others.
    pub descends_only : (share : ℕ → ℕ) → Descends nodes h fill share → (k : ℕ) → k < nodes → share k ≡ down h fill nodes k
    descends_only share s k l = settled share s t.inside nodes k l (enough k l)

module _ {nodes : ℕ} {h : ℕ → ℕ} {fill : ℕ → ℕ → ℕ → ℕ} {share : ℕ → ℕ} (d : Descends nodes h fill share) where
  -- a helper of n has what the family of n gives it
  pub descends_at : (n k r : ℕ) → k < nodes → helps h n k ≡ true → r ≡ share n → fill r n k ≡ share k
  descends_at n k r l e q =
      ap (λ (x : ℕ). fill x n k) q
      ∙ ap (λ (m : ℕ). fill (share m) m k) (sym (helps_of h n k e))
      ∙ sym (d.helper k l (helper-below h n k e))

  -- the same of shares that agree at the nodes
  pub descends_same : (other : ℕ → ℕ) → ((k : ℕ) → k < nodes → h k < nodes) → ((k : ℕ) → k < nodes → other k ≡ share k)
      → Descends nodes h fill other
  descends_same other i e =
      record {
        root = λ k l q. e k l ∙ d.root k l q;
        helper = λ k l q. e k l ∙ d.helper k l q ∙ ap (λ (r : ℕ). fill r (h k) k) (sym (e (h k) (i k l)));
      }

-- ---- fillings

module _ (nodes : ℕ) (h total : ℕ → ℕ) (limit : ℕ) (lst : ℕ → ℕ) where
  -- "The space for subdomain n is L − Rn at n itself, and L − least at each helper." A way to fill families keeps to the spaces and gives
  -- all of each subdomain, whatever the owner's share is that leaves room for its least.
  pub record Fills (fill : ℕ → ℕ → ℕ → ℕ) : Type 0 where
    pub owner : (r n : ℕ) → fill r n n ≤ limit - r
    pub helper : (r n k : ℕ) → helps h n k ≡ true → fill r n k ≤ limit - lst k
    pub whole : (r n : ℕ) → n < nodes → r ≤ limit - lst n → fill r n n + over_helpers nodes h n (fill r n) ≡ total n

  -- THEOREM. Where the numbers solve the equations of the leasts and n's is at most the limit, the spaces of n's family have room for
  -- all of subdomain n, whatever n's share is that leaves room for its least.
  pub family_room : (n r : ℕ) → lst n ≡ total n - over_helpers nodes h n (λ k. limit - lst k) → lst n ≤ limit → r ≤ limit - lst n
      → total n ≤ limit - r + over_helpers nodes h n (λ k. limit - lst k)
  family_room n r e l s = omega arith

module _ {nodes : ℕ} {h total : ℕ → ℕ} {limit : ℕ} {lst : ℕ → ℕ} {fill : ℕ → ℕ → ℕ → ℕ} {share : ℕ → ℕ}
    (f : Fills nodes h total limit lst fill) (d : Descends nodes h fill share) where
  -- a share is at most what its holder can spare
  pub share-spare : (k : ℕ) → k < nodes → share k ≤ limit - lst k
  share-spare k l = elim (ℕ_discrete (h k) k) [
    | yes e ↦ omega (arith, d.root k l e)
    | no q ↦ omega (arith, d.helper k l q, f.helper (share (h k)) (h k) k (helps-helpand h k q))
  ]

  parts : (n : ℕ) → n < nodes → fill (share n) n n + over_helpers nodes h n share ≡ total n
  parts n l =
      omega (
        arith,
        helpers_eq nodes h n (fill (share n) n) share (λ k b e. descends_at d n k (share n) b e refl),
        f.whole (share n) n l (share-spare n l),
      )

  -- helpers get no more than there is, and the owner what the filling gives it
  pub helpers_most : (n : ℕ) → n < nodes → over_helpers nodes h n share ≤ total n
  helpers_most n l = omega (arith, parts n l)

  pub own-filled : (n : ℕ) → n < nodes → own_of nodes h total share n ≡ fill (share n) n n
  own-filled n l = omega (arith, parts n l)

  -- THEOREM. Shares from the root down, by any way that fills each family, with each owner keeping the rest, are a division within
  -- the limit.
  pub descends_within : WithinLimit nodes h total limit (own_of nodes h total share) share
  descends_within =
      record {
        division = record { parts = λ n l. omega (arith, helpers_most n l) };
        within = λ n l.
            omega (arith, own-filled n l, f.owner (share n) n, share-spare n l, only-max (not (is_root h n)) (share n));
      }
