-- Laws of lists of moves and of their merges: what is true of every move of the whole is true of each part, and what the whole moves is
-- what the two parts move. Assumes nothing.
use mathlib.Core.Path.{◌≡◌, refl, ap, ◌∙◌}
use mathlib.Core.Bool.{Bool, true, false, cond, not}
use mathlib.Core.List.{List, [], ◌∷◌, map}
use Prim.Native.Nat.{ℕ, ◌+◌}
use native.Mathlib.Omega.{arith}
use lib.ListN.{length}
use Rattle.fold.specs.All.{every}
use Rattle.fold.specs.Rising.{rising}
use Rattle.fold.proofs.Tests.{and_right, and_left, and_both}
use Rattle.fold.proofs.Lists.{rises, rising_more, rising_none, rising-from}
use Rattle.moves.specs.Moves.{subdomain}
use Rattle.transfer.specs.Apply.{moved}
use Rattle.halves.specs.Parts.{Entry, route_of, count_of, entries, Merge, chosen, others}
use Rattle.halves.specs.Parts.Merge.{none, first, second}

-- ---- the pairs of two arrays that are as long

pub routes_of : (routes counts : List ℕ) → length routes ≡ length counts → map route_of (entries routes counts) ≡ routes
unfolding entries
routes_of [] counts e = refl
routes_of (r ∷ routes) [] e = absurd (omega arith)
routes_of (r ∷ routes) (k ∷ counts) e = ap (λ (l : List ℕ). r ∷ l) (routes_of routes counts (omega arith))

pub counts_of : (routes counts : List ℕ) → length routes ≡ length counts → map count_of (entries routes counts) ≡ counts
unfolding entries
counts_of [] [] e = refl
counts_of [] (k ∷ counts) e = absurd (omega arith)
counts_of (r ∷ routes) [] e = absurd (omega arith)
counts_of (r ∷ routes) (k ∷ counts) e = ap (λ (l : List ℕ). k ∷ l) (counts_of routes counts (omega arith))

-- and the two arrays of pairs
pub entries_of : (es : List Entry) → entries (map route_of es) (map count_of es) ≡ es
unfolding entries
entries_of [] = refl
entries_of (e ∷ es) = ap (λ (l : List Entry). e ∷ l) (entries_of es)

-- ---- merges

-- either list may be called the first
pub merge_exchanged : {whole a b : List Entry} → Merge whole a b → Merge whole b a
merge_exchanged none = none
merge_exchanged (first m) = second (merge_exchanged m)
merge_exchanged (second m) = first (merge_exchanged m)

pub merge-length : {whole a b : List Entry} → Merge whole a b → length whole ≡ length a + length b
merge-length none = refl
merge-length (first m) = omega (arith, merge-length m)
merge-length (second m) = omega (arith, merge-length m)

-- routes that rise in the whole rise in a part
pub merge-rising : (ok : ℕ → Bool) (low : ℕ) {whole a b : List Entry} → Merge whole a b → rising ok low (map route_of whole) ≡ true
    → rising ok low (map route_of a) ≡ true
merge-rising ok low none q = rising_none ok low
merge-rising ok low (first {e} {whole} {a} m) q =
    let r = rises ok low e.route (map route_of whole) q in
    rising_more ok low e.route (map route_of a) r.above r.passes ∙ merge-rising ok (e.route + 1) m r.rest
merge-rising ok low (second {e} {whole} m) q =
    let r = rises ok low e.route (map route_of whole) q in
    merge-rising ok low m (rising-from ok (e.route + 1) low (map route_of whole) (omega (arith, r.above)) r.rest)

-- and counts that all pass
pub merge-every : (p : ℕ → Bool) {whole a b : List Entry} → Merge whole a b → every p (map count_of whole) ≡ true
    → every p (map count_of a) ≡ true
unfolding every
merge-every p none q = refl
merge-every p (first {e} {whole} {a} m) q =
    and_both (p e.count) (every p (map count_of a)) (and_left (p e.count) (every p (map count_of whole)) q)
    (merge-every p m (and_right (p e.count) (every p (map count_of whole)) q))
merge-every p (second {e} {whole} m) q = merge-every p m (and_right (p e.count) (every p (map count_of whole)) q)

-- what moves of a list end at c
abbrev pub moved_by : (ℕ → ℕ) → List Entry → ℕ → ℕ
moved_by end es c = moved end (map route_of es) (map count_of es) c

pub merge-moved : (end : ℕ → ℕ) (c : ℕ) {whole a b : List Entry} → Merge whole a b → moved_by end whole c ≡ moved_by end a c + moved_by end b c
unfolding moved
merge-moved end c none = refl
merge-moved end c (first m) = omega (arith, merge-moved end c m)
merge-moved end c (second m) = omega (arith, merge-moved end c m)

-- ---- the moves of a set of subdomains and the others

pub chosen-merge : (set : ℕ → Bool) (es : List Entry) → Merge es (chosen set es) (chosen (others set) es)
unfolding chosen
chosen-merge set [] = none
chosen-merge set (e ∷ es) = split (set (subdomain e.route)) (chosen-merge set es)
  where
    split : (b : Bool) → Merge es (chosen set es) (chosen (others set) es)
        → Merge (e ∷ es) (cond b (e ∷ chosen set es) (chosen set es)) (cond (not b) (e ∷ chosen (others set) es) (chosen (others set) es))
    split true m = first m
    split false m = second m
