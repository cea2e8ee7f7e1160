-- Laws of ranges and of the limit. Assumes nothing.
use mathlib.Core.Path.{◌≡◌, sym}
use mathlib.Core.Bool.{true}
use Prim.Native.Nat.{ℕ, ◌+◌, ◌-◌, ◌*◌, ◌/◌, ◌≤◌, max}
use native.Mathlib.Nat.{le_refl, mul_comm, mul_left_comm, mul-le-mul, mul-div-mul_left, div-le_of_le-mul, div-eq_of_lt-le, lt-div-mul-add}
use native.Mathlib.Omega.{arith}
use borrow.Author.Tests.{leb-true, le-leb}
use lib.Dec.{leb}
use Rattle.std.specs.Int.{div_ceil}
use Rattle.std.proofs.lemmas.Grind.{div_ceil_times}
use Rattle.fold.proofs.Tests.{and_left, and_right, and_both}
use Rattle.limit.specs.Limit.{max_tolerance, tolerance_scale, max_total, max_limit, one_to, limit_of}

-- ---- ranges

module _ (most x : ℕ) where
  pub one-to-is : one_to most x ≡ true → (1 ≤ x) × (x ≤ most)
  one-to-is e = (leb-true 1 x (and_left (leb 1 x) (leb x most) e), leb-true x most (and_right (leb 1 x) (leb x most) e))

  pub one-to_of : 1 ≤ x → x ≤ most → one_to most x ≡ true
  one-to_of l h = and_both (leb 1 x) (leb x most) (le-leb 1 x l) (le-leb x most h)

-- ---- the limit

-- P/N rounded up, as std has it
pub rounded_up : (p n : ℕ) → 1 ≤ n → div_ceil p n ≡ (p + n - 1) / n
rounded_up p n hn =
    let h = div_ceil_times p n hn in
    sym (div-eq_of_lt-le n (omega (arith, h.1)) (omega (arith, h.0)))

-- the product fits 64 bits with much to spare
pub product : (p t : ℕ) → p ≤ max_total → t ≤ max_tolerance → p * (tolerance_scale + t) ≤ max_total * (tolerance_scale + max_tolerance)
product p t hp ht =
    let h : tolerance_scale + t ≤ tolerance_scale + max_tolerance = omega arith in
    mul-le-mul hp h

-- and its quotient is a limit that a plan may carry
pub loose_max : (p n t : ℕ) → p ≤ max_total → 1 ≤ n → t ≤ max_tolerance → p * (tolerance_scale + t) / (tolerance_scale * n) ≤ max_limit
loose_max p n t hp hn ht =
    let h : p * (tolerance_scale + t) ≤ max_total * (tolerance_scale + max_tolerance) = product p t hp ht in
    div-le_of_le-mul (tolerance_scale * n) (omega arith)

pub limit-max : (p n t : ℕ) → p ≤ max_total → 1 ≤ n → t ≤ max_tolerance → limit_of p n t ≤ max_limit
unfolding limit_of
limit-max p n t hp hn ht =
    let even : (p + n - 1) / n ≤ max_limit = div-le_of_le-mul n (omega arith) in
    omega (arith, loose_max p n t hp hn ht)

-- P/N rounded up is at most the limit
pub limit-even : (p n t : ℕ) → (p + n - 1) / n ≤ limit_of p n t
unfolding limit_of
limit-even p n t = omega arith

-- N nodes at the limit have room for all particles
pub limit-enough : (p n t : ℕ) → 1 ≤ n → p ≤ n * limit_of p n t
limit-enough p n t hn =
    omega (arith, lt-div-mul-add {a = p + n - 1} {b = n} hn, mul_comm ((p + n - 1) / n) n, mul-le-mul (le_refl n) (limit-even p n t))

-- THEOREM. Request 2026-01: "The worked steps take ten times their t." At ten times its t each sheet, not these alone, has the limit that
-- document 01 gave it: "the larger of P/N rounded up and P × (100+t) / (100 × N) rounded down."
pub whole_percents : (p n t : ℕ) → limit_of p n (10 * t) ≡ max ((p + n - 1) / n) (p * (100 + t) / (100 * n))
unfolding limit_of
whole_percents p n t =
    let above : tolerance_scale + 10 * t ≡ 10 * (100 + t) = omega arith in
    let below : tolerance_scale * n ≡ 10 * (100 * n) = omega arith in
    rw (above, below, mul_left_comm p 10 (100 + t), mul-div-mul_left {m = 10} (p * (100 + t)) (100 * n) (omega arith))
