-- Laws of families with a helper, and of the names of nodes' own groups, which a loop finds helper by helper. Assumes nothing.
use mathlib.Core.Path.{◌≡◌, refl, sym, ap, ◌∙◌}
use mathlib.Core.Logic.{◌≢◌}
use mathlib.Core.Bool.{Bool, true, false, cond}
use mathlib.Core.List.{List}
use Prim.Native.Nat.{ℕ, ◌+◌, ◌≤◌, ◌<◌}
use native.Mathlib.Decide.{ℕ_discrete}
use native.Mathlib.Omega.{arith}
use borrow.Author.Tests.{lt-ltb}
use lib.Dec.{ltb}
use lib.ListN.{length, set, replicate, get_or-replicate}
use lib.Seq.{get_or-set_same, get_or-set_other}
use Rattle.fold.specs.Sum.{only}
use Rattle.fold.proofs.Tests.{only-is, only-not}
use Rattle.fold.proofs.Sums.{sum_zeros, sum_term, sum_more}
use Rattle.arrays.specs.Arrays.{at}
use Rattle.tree.specs.Family.{helps, over_helpers}
use Rattle.tree.proofs.Families.{helps-yes, helps_self, helps-other, helpers_none}
use Rattle.groups.specs.Group.{has_helper, none}
use Rattle.groups.specs.Inner.{own_group}

module _ (nodes : ℕ) (h : ℕ → ℕ) (n : ℕ) where
  abbrev one : ℕ → ℕ
  one k = only (helps h n k) 1

  pub has-helper : (k : ℕ) → k < nodes → helps h n k ≡ true → has_helper nodes h n ≡ true
  has-helper k l e = lt-ltb 0 (over_helpers nodes h n (λ k. 1)) (omega (arith, sum_term nodes one k l, only-is (helps h n k) 1 e))

  pub has-none : ((k : ℕ) → k < nodes → helps h n k ≡ false) → has_helper nodes h n ≡ false
  has-none none = ap (ltb 0) (sum_zeros nodes one (λ k l. only-not (helps h n k) 1 (none k l)))

-- ---- own groups, of the helpers below k

module _ (h : ℕ → ℕ) (n : ℕ) where
  pub own-none : own_group 0 h n ≡ none
  own-none = ap (λ (x : ℕ). cond (ltb 0 x) n none) (helpers_none h n (λ k. 1))

  -- node k does not help n, or does
  own_same : (k : ℕ) → helps h n k ≡ false → own_group (k + 1) h n ≡ own_group k h n
  own_same k e =
      let more : over_helpers (k + 1) h n (λ k. 1) ≡ over_helpers k h n (λ k. 1) =
      omega (arith, sum_more k (one k h n), only-not (helps h n k) 1 e) in
      ap (λ (x : ℕ). cond (ltb 0 x) n none) more

  own_more : (k : ℕ) → helps h n k ≡ true → own_group (k + 1) h n ≡ n
  own_more k e = ap (λ (b : Bool). cond b n none) (has-helper (k + 1) h n k (omega arith) e)

-- the names as far as node k
abbrev pub Owning : ℕ → (ℕ → ℕ) → ℕ → List ℕ → Type 0
Owning nodes h k own = (n : ℕ) → n < nodes → at own n ≡ own_group k h n

module _ (nodes : ℕ) (h : ℕ → ℕ) where
  pub owning_none : nodes ≤ 64 → Owning nodes h 0 (replicate 64 none)
  owning_none few n l = get_or-replicate 64 n none 0 (omega arith) ∙ sym (own-none h n)

  module _ (k : ℕ) (own : List ℕ) (x : Owning nodes h k own) where
    pub owning_root : h k ≡ k → Owning nodes h (k + 1) own
    owning_root e n l = x n l ∙ sym (own_same h n k (elim (ℕ_discrete k n) [
      | yes q ↦ helps_self h n k q
      | no d ↦ helps-other h n k (λ q. d (sym e ∙ q))
    ]))

    pub owning_helper : h k ≢ k → h k < length own → Owning nodes h (k + 1) (set own (h k) (h k))
    owning_helper d l n b = elim (ℕ_discrete n (h k)) [
      | yes q ↦ rw q (get_or-set_same own (h k) (h k) 0 l ∙ sym (own_more h (h k) k (helps-yes h (h k) k refl (λ p. d (sym p)))))
      | no c ↦ get_or-set_other own (h k) n (h k) 0 c ∙ x n b ∙ sym (own_same h n k (helps-other h n k (λ q. c (sym q))))
    ]
