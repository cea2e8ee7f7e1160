-- Laws of arrays of zeros, and of a list with zeros behind it. Assumes nothing.
use mathlib.Core.Path.{◌≡◌, refl, sym, fun_ext, ◌∙◌}
use mathlib.Core.List.{List, [], ◌∷◌, ◌++◌, append_assoc}
use Prim.Native.Nat.{ℕ, zero, suc, ◌-◌, ◌<◌}
use native.Mathlib.Numerals.{unary_clauses}
use native.Mathlib.Omega.{arith}
use lib.ListN.{length, set, drop, replicate, length-append}
use lib.Seq.{set-append_seam}
use Rattle.arrays.specs.Arrays.{at, padded}

-- an array of zeros
pub zeros-at : (n k : ℕ) → at (replicate n 0) k ≡ 0
zeros-at zero k = refl
zeros-at (suc n) zero = refl
zeros-at (suc n) (suc k) = zeros-at n k

-- fewer zeros
pub drop-zeros : (n m : ℕ) → ◌≡◌ {A = List ℕ} (drop n (replicate m 0)) (replicate (m - n) 0)
drop-zeros zero m = simp unary_clauses refl
drop-zeros (suc n) zero =
    let e : 0 - suc n ≡ 0 = omega arith in
    rw e
drop-zeros (suc n) (suc m) = simp unary_clauses (drop-zeros n m)

behind-at : (xs : List ℕ) (n k : ℕ) → at (xs ++ replicate n 0) k ≡ at xs k
behind-at [] n k = zeros-at n k
behind-at (x ∷ xs) n zero = refl
behind-at (x ∷ xs) n (suc k) = behind-at xs n k

pub padded-at : (xs : List ℕ) (k : ℕ) → at (padded xs) k ≡ at xs k
padded-at xs k = behind-at xs (64 - length xs) k

pub padded-same : (xs : List ℕ) → at (padded xs) ≡ at xs
padded-same xs = fun_ext (padded-at xs)

-- one more number in the array
pub padded_more : (xs : List ℕ) (w : ℕ) → length xs < 64 → set (padded xs) (length xs) w ≡ padded (xs ++ (w ∷ []))
padded_more xs w h =
    let e : 64 - length xs ≡ suc (63 - length xs) = omega arith in
    let f : 64 - length (xs ++ (w ∷ [])) ≡ 63 - length xs = simp length-append (omega arith) in
    rw (e, f) (set-append_seam xs 0 (replicate (63 - length xs) 0) w ∙ sym (append_assoc xs (w ∷ []) (replicate (63 - length xs) 0)))
