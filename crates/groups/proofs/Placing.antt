-- N and the two rows of entries, each stored as a run of words, are the record. Assumes nothing.
use mathlib.Core.Path.{◌≡◌, refl, sym, ap, ap₂, ◌∙◌}
use mathlib.Core.List.{List, [], ◌∷◌, ◌++◌}
use Prim.Native.Nat.{ℕ, zero, suc, ◌+◌, ◌*◌, ◌≤◌, ◌<◌}
use native.Mathlib.Omega.{arith}
use lib.ListN.{length, get_or, take, replicate, length-append, length-replicate, get_or-replicate}
use lib.Seq.{sets, ext_get_or}
use Rattle.fold.specs.Collect.{collect}
use Rattle.fold.proofs.Lists.{collect_more}
use Rattle.arrays.proofs.Tabulate.{length-row, row_at}
use Rattle.words.specs.Words.{bytes_of, encode, put_word}
use Rattle.words.specs.Buffer.{placed}
use Rattle.words.proofs.Words.{length-encode, encode_snoc}
use Rattle.words.proofs.Buffer.{length_put, put_sets, put_before, put_behind, record_placed}
use Rattle.groups.specs.declared.colour.Colour.{Colour}
use Rattle.groups.specs.declared.colour.Colour.TheVariants.{Even, Odd}
use Rattle.groups.specs.Group.{none, group_in}
use Rattle.groups.specs.Groups.{groups_in, groups_bytes, groups_size}
use Rattle.groups.specs.Inner.{with_entries, no_groups}

-- N is stored first
head-sets : (n : ℕ) (out : List ℕ) → put_word out 0 n ≡ sets out 0 (encode (n ∷ []))
unfolding encode
head-sets n out = put_sets out 0 n

module _ (n : ℕ) (h : ℕ → ℕ) where
  pub length_in : (c : Colour) → length (groups_in n h c) ≡ n
  length_in c = length-row (group_in n h c) n

  pub length-groups : length (groups_bytes n h) ≡ groups_size n
  unfolding groups_bytes
  length-groups =
      length-encode ((n ∷ []) ++ groups_in n h Even ++ groups_in n h Odd)
      ∙ simp length-append (omega (arith, length_in Even, length_in Odd))

  -- and then the entries
  pub groups-placed : (out head : List ℕ) → groups_size n ≤ length out → head ≡ put_word out 0 n
      → with_entries n (group_in n h) n head ≡ placed (groups_bytes n h) out
  unfolding groups_bytes
  groups-placed out head fits e =
      rw (e, head-sets n out)
      (record_placed out (n ∷ []) (groups_in n h Even) (groups_in n h Odd) 4 (4 * (1 + n)) refl
      (omega (arith, length_in Even)) (omega (arith, length_in Even, length_in Odd)))

-- ---- the entries of one node more

pub entries_none : (nodes : ℕ) (entry : Colour → ℕ → ℕ) (out : List ℕ) → out ≡ with_entries nodes entry 0 out
unfolding collect encode
entries_none nodes entry out = refl

module _ (nodes : ℕ) (entry : Colour → ℕ → ℕ) (k : ℕ) where
  abbrev row : Colour → List ℕ
  row c = collect k (λ j. entry c j ∷ [])

  row_more : (c : Colour) → encode (collect (k + 1) (λ j. entry c j ∷ [])) ≡ encode (row c) ++ bytes_of (entry c k)
  row_more c = ap encode (collect_more k (λ j. entry c j ∷ [])) ∙ encode_snoc (row c) (entry c k)

  pub entries_more : (out : List ℕ) → k < nodes
      → put_word (put_word (with_entries nodes entry k out) (4 * (1 + k)) (entry Even k)) (4 * (1 + nodes + k)) (entry Odd k)
      ≡ with_entries nodes entry (k + 1) out
  entries_more out l =
      let here : 4 * (1 + k) ≡ 4 + 4 * length (row Even) = omega (arith, length-row (entry Even) k) in
      let there : 4 * (1 + nodes + k) ≡ 4 * (1 + nodes) + 4 * length (row Odd) = omega (arith, length-row (entry Odd) k) in
      rw (
        put_before (sets out 4 (encode (row Even))) (4 * (1 + nodes)) (encode (row Odd)) (4 * (1 + k)) (entry Even k) (omega arith),
        here,
        put_behind out 4 (row Even) (entry Even k),
        there,
      )
      (put_behind (sets out 4 (encode (row Even) ++ bytes_of (entry Even k))) (4 * (1 + nodes)) (row Odd) (entry Odd k)
      ∙ rw (row_more Even, row_more Odd))

  -- one node's two stores
  pub entries-stored : (before : List ℕ) {out out₁ out₂ : List ℕ} {e o : ℕ} → k < nodes → out ≡ with_entries nodes entry k before
      → e ≡ entry Even k → o ≡ entry Odd k → out₁ ≡ put_word out (4 * (1 + k)) e → out₂ ≡ put_word out₁ (4 * (1 + nodes + k)) o
      → (out₂ ≡ with_entries nodes entry (k + 1) before) × (length out ≡ length before → length out₂ ≡ length before)
  entries-stored before {out} {out₁} {out₂} {e} {o} l is even odd first second =
      let both : out₂ ≡ put_word (put_word out (4 * (1 + k)) e) (4 * (1 + nodes + k)) o =
      second ∙ ap (λ (x : List ℕ). put_word x (4 * (1 + nodes + k)) o) first in (
        both ∙ rw (even, odd, is) (entries_more before l),
        λ long. ap length both
            ∙ length_put (put_word out (4 * (1 + k)) e) (4 * (1 + nodes + k)) o
            ∙ length_put out (4 * (1 + k)) e
            ∙ long,
      )

-- ---- no group at all

-- so many of 64 entries that are all none
take_none : (n m : ℕ) → n ≤ m → take n (replicate m none) ≡ replicate n none
take_none zero m l = refl
take_none (suc n) zero l = absurd (omega arith)
take_none (suc n) (suc m) l = ap (λ (xs : List ℕ). none ∷ xs) (take_none n m (omega arith))

pub none-placed : (n : ℕ) (out : List ℕ) → n ≤ 64 → groups_size n ≤ length out
    → sets (sets (put_word out 0 n) 4 (encode (take n (replicate 64 none)))) (4 * (1 + n)) (encode (take n (replicate 64 none)))
    ≡ placed (no_groups n) out
unfolding no_groups
none-placed n out few fits =
    let e = length-replicate n none in
    rw (take_none n 64 few, head-sets n out)
    (record_placed out (n ∷ []) (replicate n none) (replicate n none) 4 (4 * (1 + n)) refl (omega (arith, e)) (omega (arith, e)))

-- the same as the entries of nodes that are in no group
row-none : (n : ℕ) (entry : ℕ → ℕ) → ((k : ℕ) → entry k ≡ none) → replicate n none ≡ collect n (λ k. entry k ∷ [])
row-none n entry e = ext_get_or 0 (replicate n none) (collect n (λ k. entry k ∷ [])) (length-replicate n none ∙ sym (length-row entry n)) each
  where
    each : (k : ℕ) → k < length (replicate n none) → get_or (replicate n none) k 0 ≡ get_or (collect n (λ k. entry k ∷ [])) k 0
    each k l =
        let b : k < n = omega (arith, length-replicate n none) in
        get_or-replicate n k none 0 b ∙ sym (row_at entry n k b ∙ e k)

pub none-groups : (n : ℕ) (h : ℕ → ℕ) → ((c : Colour) (k : ℕ) → group_in n h c k ≡ none) → no_groups n ≡ groups_bytes n h
unfolding no_groups groups_bytes
none-groups n h e =
    ap₂ (λ (xs ys : List ℕ). encode ((n ∷ []) ++ xs ++ ys)) (row-none n (group_in n h Even) (e Even)) (row-none n (group_in n h Odd) (e Odd))
