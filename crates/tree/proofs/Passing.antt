-- An array as it is passed down a tree and back: one law for each way that a turn of a loop over the helpers can go, and what stands in
-- the array when the loop is done. Whatever is written is right, so no order matters. Assumes nothing.
use mathlib.Core.Path.{◌≡◌, refl, sym, ap, ◌∙◌}
use mathlib.Core.Logic.{◌≢◌}
use mathlib.Core.Bool.{true, true≢false}
use mathlib.Core.List.{List}
use Prim.Native.Nat.{ℕ, zero, suc, ◌+◌, ◌≤◌, ◌<◌}
use native.Mathlib.Decide.{ℕ_discrete, dec_lt}
use native.Mathlib.Omega.{arith}
use lib.ListN.{length, set, replicate}
use lib.Seq.{get_or-set_same, get_or-set_other}
use Rattle.fold.specs.First.{FirstFrom}
use Rattle.plan.specs.Tree.{walk, Tree}
use Rattle.plan.proofs.Trees.{walk_none, walk-suc, walk_inside}
use Rattle.arrays.specs.Arrays.{at, tabulate}
use Rattle.tree.specs.Family.{helps}
use Rattle.tree.specs.Inner.{Descended}
use Rattle.tree.proofs.Families.{helps-yes}
use Rattle.arrays.proofs.Padded.{zeros-at}
use Rattle.arrays.proofs.Tabulate.{tabulate-is}

-- a chain that comes to n from elsewhere comes through a helper of n
through_helper : (nodes : ℕ) (h : ℕ → ℕ) → ((k : ℕ) → k < nodes → h k < nodes) → (n steps j : ℕ) → j < nodes → j ≢ n → walk h steps j ≡ n
    → (i : ℕ) × (s : ℕ) × (i < nodes) × (helps h n i ≡ true) × (walk h s j ≡ i)
through_helper nodes h inside n zero j l d e = absurd (d (sym (walk_none h j) ∙ e))
through_helper nodes h inside n (suc steps) j l d e = elim (ℕ_discrete (walk h steps j) n) [
  | yes q ↦ through_helper nodes h inside n steps j l d q
  | no q ↦ (
    walk h steps j,
    steps,
    walk_inside h nodes inside steps j l,
    helps-yes h n (walk h steps j) (sym (walk-suc h steps j) ∙ e) q,
    refl,
  )
]

-- the state of a loop over the helpers of n once those below k are passed, and with them all nodes below them
pub record HelpersPassed (nodes : ℕ) (h right : ℕ → ℕ) (n : ℕ) (before : List ℕ) (k : ℕ) (out : List ℕ) : Type 0 where
  pub below : (i j steps : ℕ) → i < k → helps h n i ≡ true → j < nodes → walk h steps j ≡ i → at out j ≡ right j
  pub kept : (j : ℕ) → j < nodes → at before j ≡ right j → at out j ≡ right j
  pub behind : (j : ℕ) → nodes ≤ j → at out j ≡ at before j

module _ {nodes : ℕ} {h right : ℕ → ℕ} {n : ℕ} {before : List ℕ} where
  pub passed_none : HelpersPassed nodes h right n before 0 before
  passed_none = record { below = λ i j steps l. absurd (omega arith); kept = λ j l e. e; behind = λ j l. refl }

  -- from one helper to the next
  pub passed-next : {m to : ℕ} {out : List ℕ} → HelpersPassed nodes h right n before m out → FirstFrom nodes (helps h n) m to
      → HelpersPassed nodes h right n before to out
  passed-next {m} p x =
      record {
        below = λ i j steps l e. elim (dec_lt i m) [
          | yes b ↦ p.below i j steps b e
          | no d ↦ absurd (true≢false (sym e ∙ x.none i (omega arith) l))
        ];
        kept = p.kept;
        behind = p.behind;
      }

  -- the pass went down from helper k
  pub passed-helper : {k : ℕ} {out after : List ℕ} → HelpersPassed nodes h right n before k out → Descended nodes h right k out after
      → HelpersPassed nodes h right n before (k + 1) after
  passed-helper {k} p w =
      record {
        below = λ i j steps l e m q. elim (ℕ_discrete i k) [
          | yes z ↦ w.below j steps m (q ∙ z)
          | no d ↦ w.kept j m (p.below i j steps (omega arith) e m q)
        ];
        kept = λ j m q. w.kept j m (p.kept j m q);
        behind = λ j m. w.behind j m ∙ p.behind j m;
      }

  -- all helpers are passed, and n has its entry
  pub passed-all : {r : ℕ} {out : List ℕ} → Tree nodes h r → HelpersPassed nodes h right n before nodes out → at out n ≡ right n
      → Descended nodes h right n before out
  passed-all {r} {out} t p e =
      record {
        below = λ j steps l q. elim (ℕ_discrete j n) [
          | yes z ↦ ap (at out) z ∙ e ∙ ap right (sym z)
          | no d ↦
              let w = through_helper nodes h t.inside n steps j l d q in
              p.below w.0 j w.1 w.2 w.3 l w.4
        ];
        kept = p.kept;
        behind = p.behind;
      }

-- the entry of n is stored after its helpers
pub passed_store : {nodes : ℕ} {h right : ℕ → ℕ} {n r : ℕ} {before out : List ℕ} → Tree nodes h r → n < nodes → n < length out
    → HelpersPassed nodes h right n before nodes out → (v : ℕ) → v ≡ right n → Descended nodes h right n before (set out n v)
passed_store {nodes} {h} {right} {n} {r} {before} {out} t l b p v e =
    passed-all t
    (record {
      below = λ i j steps m y q z. stays j (p.below i j steps m y q z);
      kept = λ j m q. stays j (p.kept j m q);
      behind = λ j m. get_or-set_other out n j v 0 (λ q. omega arith) ∙ p.behind j m;
    })
    here
  where
    here : at (set out n v) n ≡ right n
    here = get_or-set_same out n v 0 b ∙ e

    stays : (j : ℕ) → at out j ≡ right j → at (set out n v) j ≡ right j
    stays j q = elim (ℕ_discrete j n) [
      | yes z ↦ rw z here
      | no d ↦ get_or-set_other out n j v 0 d ∙ q
    ]

-- a pass from the root, over an array of zeros: every chain comes to the root, so all entries are right
pub descended_root : {nodes : ℕ} {h right : ℕ → ℕ} {r : ℕ} {out : List ℕ} → Tree nodes h r → nodes ≤ 64 → length out ≡ 64
    → Descended nodes h right r (replicate 64 0) out → out ≡ tabulate nodes right
descended_root {nodes} {right = right} {out = out} t b e w =
    tabulate-is nodes right b out e (λ k l. w.below k nodes l (t.reach k l)) (λ k l. w.behind k l ∙ zeros-at 64 k)
