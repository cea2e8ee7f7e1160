-- The numbers of a tally as they are laid out: one row put behind the other, what lies where, and a store in each part. Assumes nothing.
use mathlib.Core.Path.{◌≡◌, refl, sym, ap, ◌∙◌}
use mathlib.Core.List.{List, [], ◌∷◌, ◌++◌}
use Prim.Native.Nat.{ℕ, ◌+◌, ◌<◌}
use native.Mathlib.Nat.{zero-add, suc-add}
use native.Mathlib.Omega.{arith}
use lib.ListN.{length, set, drop, length-append, length-drop, get_or-append}
use lib.Seq.{get_or-append-add, set-append_left, take-append_seam, drop-append-add}
use Rattle.std.proofs.Common.{append_assoc, append-nil}
use Rattle.std.proofs.lemmas.List.{drop_all}
use Rattle.arrays.specs.Arrays.{at}
use Rattle.tally.specs.Layout.{total_at, least_at, count_at, laid}
use Rattle.tally.specs.Inner.{put_at}

-- a store behind a part
set-append-add : (xs ys : List ℕ) (i v : ℕ) → set (xs ++ ys) (length xs + i) v ≡ xs ++ set ys i v
set-append-add [] ys i v = ap (λ (k : ℕ). set ys k v) (zero-add i)
set-append-add (x ∷ xs) ys i v =
    ap (λ (k : ℕ). set (x ∷ (xs ++ ys)) k v) (suc-add (length xs) i) ∙ ap (λ (r : List ℕ). x ∷ r) (set-append-add xs ys i v)

-- totals and leasts of 64 nodes
pub record Rows (totals leasts : List ℕ) : Type 0 where
  pub totals_long : length totals ≡ 64
  pub leasts_long : length leasts ≡ 64

-- a row that is put behind those before it
put-behind : (front row rest : List ℕ) (from : ℕ) → from ≡ length front
    → put_at from row (front ++ rest) ≡ front ++ row ++ drop (length row) rest
put-behind front row rest from e =
    rw (e, take-append_seam, drop-append-add front rest (length row)) (sym (append_assoc front row (drop (length row) rest)))

-- three rows fill the cells
pub put_all : {totals leasts : List ℕ} → Rows totals leasts → (counts cells : List ℕ) → 128 + length counts ≡ length cells
    → put_at 128 counts (put_at 64 leasts (put_at 0 totals cells)) ≡ laid totals leasts counts
put_all {totals} {leasts} r counts cells e =
    let rest = drop (length leasts) (drop (length totals) cells) in
    let none : drop (length counts) rest ≡ [] =
    drop_all (length counts) rest
    (omega (arith, e, r.totals_long, r.leasts_long, length-drop (length leasts) (drop (length totals) cells), length-drop (length totals) cells)) in
    rw (
      put-behind [] totals cells 0 refl,
      put-behind totals leasts (drop (length totals) cells) 64 (sym r.totals_long),
      put-behind (totals ++ leasts) counts rest 128 (omega (arith, r.totals_long, r.leasts_long, length-append totals leasts)),
      none,
      append-nil,
    )
    (append_assoc totals leasts counts)

two : (c : ℕ) → 128 + c ≡ 64 + (64 + c)
two c = omega arith

module _ {totals leasts : List ℕ} (r : Rows totals leasts) (counts : List ℕ) where
  abbrev cells : List ℕ
  cells = laid totals leasts counts

  pub laid-length : length cells ≡ 128 + length counts
  laid-length = length-append totals (leasts ++ counts) ∙ omega (arith, r.totals_long, r.leasts_long, length-append leasts counts)

  -- behind the totals, and behind the leasts
  past : (i : ℕ) → at cells (64 + i) ≡ at (leasts ++ counts) i
  past i = rw (← r.totals_long) (get_or-append-add totals (leasts ++ counts) i 0)

  past-leasts : (c : ℕ) → at (leasts ++ counts) (64 + c) ≡ at counts c
  past-leasts c = rw (← r.leasts_long) (get_or-append-add leasts counts c 0)

  pub laid-total : (n : ℕ) → n < 64 → total_at cells n ≡ at totals n
  laid-total n b = get_or-append totals (leasts ++ counts) 0 n (omega (arith, r.totals_long))

  pub laid-least : (n : ℕ) → n < 64 → least_at cells n ≡ at leasts n
  laid-least n b = past n ∙ get_or-append leasts counts 0 n (omega (arith, r.leasts_long))

  pub laid-count : (c : ℕ) → count_at cells c ≡ at counts c
  laid-count c = ap (at cells) (two c) ∙ past (64 + c) ∙ past-leasts c

  -- ---- a store

  set_past : (i v : ℕ) → set cells (64 + i) v ≡ totals ++ set (leasts ++ counts) i v
  set_past i v = rw (← r.totals_long) (set-append-add totals (leasts ++ counts) i v)

  set-past-leasts : (c v : ℕ) → set (leasts ++ counts) (64 + c) v ≡ leasts ++ set counts c v
  set-past-leasts c v = rw (← r.leasts_long) (set-append-add leasts counts c v)

  pub set-total : (n v : ℕ) → n < 64 → set cells n v ≡ laid (set totals n v) leasts counts
  set-total n v b = set-append_left totals (leasts ++ counts) n v (omega (arith, r.totals_long))

  pub set-count : (c v : ℕ) → set cells (128 + c) v ≡ laid totals leasts (set counts c v)
  set-count c v =
      ap (λ (k : ℕ). set cells k v) (two c) ∙ set_past (64 + c) v ∙ ap (λ (xs : List ℕ). totals ++ xs) (set-past-leasts c v)
