-- Laws of the shares that are noted for the helpers of a node, one for each way that a turn of the loop can go, and what they are to the
-- pass down the tree. Assumes nothing.
use mathlib.Core.Path.{◌≡◌, refl, sym, ◌∙◌}
use mathlib.Core.Logic.{◌⊎◌, inl, inr}
use mathlib.Core.Bool.{true, false, true≢false}
use mathlib.Core.List.{List}
use Prim.Native.Nat.{ℕ, ◌+◌, ◌-◌, ◌≤◌, ◌<◌}
use native.Mathlib.Decide.{ℕ_discrete, dec_lt}
use native.Mathlib.Omega.{arith}
use lib.ListN.{length, set, length-set}
use lib.Seq.{get_or-set_same, get_or-set_other}
use Rattle.fold.specs.First.{FirstFrom}
use Rattle.fold.proofs.Tests.{either}
use Rattle.arrays.specs.Arrays.{at}
use Rattle.tree.specs.Family.{helps}
use Rattle.tree.specs.Down.{Descends}
use Rattle.tree.specs.Inner.{Descended}
use Rattle.tree.proofs.Linking.{Left, left-first, left-next, left-all}
use Rattle.tree.proofs.Passing.{HelpersPassed}
use Rattle.tree.proofs.Filling.{descends_at}
use Rattle.shares.specs.Inner.{Noted}

module _ {h : ℕ → ℕ} {n : ℕ} {amount : ℕ → ℕ} {before : List ℕ} where
  pub noted-none : Noted h n amount 0 before before
  noted-none = record { helper = λ k l. absurd (omega arith); other = λ k e. refl }

  -- from one helper to the next
  pub noted-next : {nodes m to : ℕ} {out : List ℕ} → Noted h n amount m before out → FirstFrom nodes (helps h n) m to
      → Noted h n amount to before out
  noted-next {nodes} {m} p x =
      record {
        helper = λ k l y. elim (dec_lt k m) [
          | yes b ↦ p.helper k b y
          | no d ↦ absurd (true≢false (sym y ∙ x.none k (omega arith) l))
        ];
        other = λ k e. p.other k (λ l. e (omega (arith, x.from_le)));
      }

  -- helper k is noted
  pub noted_more : {k v : ℕ} {out : List ℕ} → Noted h n amount k before out → k < length out → helps h n k ≡ true → v ≡ amount k
      → Noted h n amount (k + 1) before (set out k v)
  noted_more {k} {v} {out} p b y e =
      record {
        helper = λ j l z. elim (ℕ_discrete j k) [
          | yes q ↦ rw q (get_or-set_same out k v 0 b ∙ e)
          | no d ↦ get_or-set_other out k j v 0 d ∙ p.helper j (omega arith) z
        ];
        other = λ j z. elim (ℕ_discrete j k) [
          | yes q ↦ absurd (true≢false (sym y ∙ rw q at (z (omega arith))))
          | no d ↦ get_or-set_other out k j v 0 d ∙ p.other j (λ l. z (omega arith))
        ];
      }

-- the same amounts are noted
pub noted-eq : {nodes : ℕ} {h : ℕ → ℕ} {n : ℕ} {amount amount' : ℕ → ℕ} {before after : List ℕ} → Noted h n amount nodes before after
    → ((k : ℕ) → k < nodes → amount k ≡ amount' k) → Noted h n amount' nodes before after
noted-eq p e = record { helper = λ k l y. p.helper k l y ∙ e k l; other = p.other }

-- ---- a loop that notes the helpers of n, and takes a part of something for each: those below k are noted

pub record NotedSoFar (nodes : ℕ) (h : ℕ → ℕ) (n : ℕ) (amount part : ℕ → ℕ) (x : ℕ) (before out : List ℕ) (left k : ℕ) : Type 0 where
  pub long : length out ≡ 64
  pub taken : Left nodes h n part x left k
  pub noted : Noted h n amount k before out

module _ {nodes : ℕ} {h : ℕ → ℕ} {n : ℕ} {amount part : ℕ → ℕ} {x : ℕ} {before : List ℕ} where
  pub so_far-none : {left k : ℕ} → length before ≡ 64 → left ≡ x → FirstFrom nodes (helps h n) 0 k
      → NotedSoFar nodes h n amount part x before before left k
  so_far-none l e f = record { long = l; taken = left-first e f; noted = noted-next noted-none f }

  pub so_far_more : {out : List ℕ} {left rest k to v : ℕ} → NotedSoFar nodes h n amount part x before out left k → nodes ≤ 64 → k < nodes
      → v ≡ amount k → rest ≡ left - part k → FirstFrom nodes (helps h n) (k + 1) to
      → NotedSoFar nodes h n amount part x before (set out k v) rest to
  so_far_more p few l e q f =
      record {
        long = simp length-set p.long;
        taken = left-next p.taken l q f;
        noted = noted-next (noted_more p.noted (omega (arith, p.long)) (p.taken.helper l) e) f;
      }

  pub so_far-all : {out : List ℕ} {left k : ℕ} → NotedSoFar nodes h n amount part x before out left k → nodes ≤ k
      → (length out ≡ 64) × Noted h n amount nodes before out
  so_far-all p l = (p.long, rw (left-all p.taken l).0 at p.noted)

  -- what is noted for helper k is as it was
  pub so_far_before : {out : List ℕ} {left k : ℕ} → NotedSoFar nodes h n amount part x before out left k → at out k ≡ at before k
  so_far_before {k = k} p = p.noted.other k (λ l. absurd (omega arith))

-- where the noted amounts are those of the family of n, from the root down, no right share is lost
pub noted-right : {nodes : ℕ} {h : ℕ → ℕ} {fill : ℕ → ℕ → ℕ → ℕ} {share : ℕ → ℕ} {n r : ℕ} {before out : List ℕ}
    → Descends nodes h fill share → r ≡ share n → Noted h n (fill r n) nodes before out
    → ((k : ℕ) → k < nodes → helps h n k ≡ true → at out k ≡ share k) × HelpersPassed nodes h share n before 0 out
noted-right {nodes} {h} {fill} {share} {n} {r} {before} {out} d e p = (
  right,
  record {
    below = λ i j steps l. absurd (omega arith);
    kept = λ j l q. kept j l q (either (helps h n j));
    behind = λ j l. p.other j (λ b. absurd (omega arith));
  },
)
  where
    right : (k : ℕ) → k < nodes → helps h n k ≡ true → at out k ≡ share k
    right k l y = p.helper k l y ∙ descends_at d n k r l y e

    kept : (j : ℕ) → j < nodes → at before j ≡ share j → (helps h n j ≡ true) ⊎ (helps h n j ≡ false) → at out j ≡ share j
    kept j l q (inl y) = right j l y
    kept j l q (inr y) = p.other j (λ b. y) ∙ q

-- a pass that goes on from there
pub descended_after : {nodes : ℕ} {h right : ℕ → ℕ} {n : ℕ} {before noted after : List ℕ} → HelpersPassed nodes h right n before 0 noted
    → Descended nodes h right n noted after → Descended nodes h right n before after
descended_after p d =
    record { below = d.below; kept = λ j l q. d.kept j l (p.kept j l q); behind = λ j l. d.behind j l ∙ p.behind j l }
