-- The rule of the Z order: a cell and its position determine each other, so that the positions of different cells differ and fill the
-- numbers from 0 to 4,095; and the bits of a position are those that the rule names. Bits are put apart and together again one at a time.
-- Assumes nothing.
use mathlib.Core.Path.{◌≡◌, sym, ap, ap₂, ◌∙◌}
use Prim.Native.Nat.{ℕ, zero, suc, ◌+◌, ◌*◌, ◌/◌, ◌%◌, ◌^◌, ◌<◌, ◌≤◌}
use native.Mathlib.Nat.{div-one, div-div-eq-div-mul, pow-succ'}
use native.Mathlib.Omega.{arith}
use Rattle.fold.specs.Sum.{sum}
use Rattle.limit.specs.Limit.{table_size}
use Rattle.archive.specs.ZOrder.{bit, position, position_of}

-- the k lowest bits of x, bit i at bit 2i
unfoldable spread : ℕ → ℕ → ℕ
spread zero x = 0
spread (suc k) x = x % 2 + 4 * spread k (x / 2)

-- the k lowest of the bits 0, 2, 4, .. of x, bit 2i at bit i
unfoldable gather : ℕ → ℕ → ℕ
gather zero x = 0
gather (suc k) x = x % 2 + 2 * gather k (x / 4)

-- ---- the rule, bit by bit

-- bit i of x at bit 2i, for i from 0 to 5, as a sum
unfoldable spread_of : ℕ → ℕ
spread_of x = sum 6 (λ i. 2 ^ (2 * i) * bit i x)

-- six terms side by side, and one in the other
nested : (a b c d e f : ℕ) → 0 + 1 * a + 4 * b + 16 * c + 64 * d + 256 * e + 1024 * f
    ≡ a + 4 * (b + 4 * (c + 4 * (d + 4 * (e + 4 * (f + 4 * 0)))))
nested a b c d e f = omega arith

spread-is : (x : ℕ) → spread_of x ≡ spread 6 x
unfolding spread_of spread sum
spread-is x =
    let e₂ : x / 4 ≡ x / 2 / 2 = omega arith in
    let e₃ : x / 8 ≡ x / 2 / 2 / 2 = omega arith in
    let e₄ : x / 16 ≡ x / 2 / 2 / 2 / 2 = omega arith in
    let e₅ : x / 32 ≡ x / 2 / 2 / 2 / 2 / 2 = omega arith in
    nested (x / 1 % 2) (x / 2 % 2) (x / 4 % 2) (x / 8 % 2) (x / 16 % 2) (x / 32 % 2) ∙ rw (div-one x, e₂, e₃, e₄, e₅)

-- the bits of the subdomain, and between them those of the holder
position_spreads : (holder subdomain : ℕ) → position holder subdomain ≡ spread_of subdomain + 2 * spread_of holder
unfolding position spread_of sum
position_spreads holder subdomain = omega arith

position-is : (holder subdomain : ℕ) → position holder subdomain ≡ spread 6 subdomain + 2 * spread 6 holder
position-is holder subdomain =
    omega (arith, position_spreads holder subdomain, spread-is holder, spread-is subdomain)

-- ---- bounds

spread-small : (k x : ℕ) → 3 * spread k x + 1 ≤ 4 ^ k
unfolding spread
spread-small zero x = omega arith
spread-small (suc k) x = omega (arith, spread-small k (x / 2))

gather-small : (k x : ℕ) → gather k x < 2 ^ k
unfolding gather
gather-small zero x = omega arith
gather-small (suc k) x = omega (arith, gather-small k (x / 4))

-- ---- two numbers interleaved, without their lowest bits

-- the lowest bit is that of the first
lowest : (k j x y : ℕ) → (spread (suc k) x + 2 * spread j y) % 2 ≡ x % 2
unfolding spread
lowest k zero x y = omega arith
lowest k (suc j) x y = omega arith

-- without it the second comes first
second : (k x y : ℕ) → (spread (suc k) x + 2 * spread (suc k) y) / 2 ≡ spread (suc k) y + 2 * spread k (x / 2)
unfolding spread
second k x y = omega arith

-- and without the lowest of both it begins again
next : (k j x y : ℕ) → (spread (suc k) x + 2 * spread (suc j) y) / 4 ≡ spread k (x / 2) + 2 * spread j (y / 2)
unfolding spread
next k j x y = omega arith

-- however many bits the second has
fourth : (k j x y : ℕ) → (m : ℕ) × ((spread (suc k) x + 2 * spread j y) / 4 ≡ spread k (x / 2) + 2 * spread m (y / 2))
fourth k zero x y = (zero, unfold spread in omega arith)
fourth k (suc j) x y = (j, next k j x y)

-- ---- the rule read from the position

half : (i x : ℕ) → x / 2 / 2 ^ i ≡ x / 2 ^ suc i
half i x = div-div-eq-div-mul x 2 (2 ^ i) ∙ ap (λ (y : ℕ). x / y) (sym (pow-succ' 2 i))

two_more : (i x : ℕ) → x / 4 / 2 ^ (2 * i) ≡ x / 2 ^ (2 * suc i)
two_more i x =
    let e : 2 * suc i ≡ suc (suc (2 * i)) = omega arith in
    let q : x / 4 ≡ x / 2 / 2 = omega arith in
    rw (e, q) (half (2 * i) (x / 2) ∙ half (suc (2 * i)) x)

even-bit : (i k j x y : ℕ) → i < k → (spread k x + 2 * spread j y) / 2 ^ (2 * i) % 2 ≡ x / 2 ^ i % 2
even-bit i zero j x y h = absurd (omega arith)
even-bit zero (suc k) j x y h = rw (div-one (spread (suc k) x + 2 * spread j y), div-one x) (lowest k j x y)
even-bit (suc i) (suc k) j x y h =
    let f = fourth k j x y in
    ap (λ (z : ℕ). z % 2) (sym (two_more i (spread (suc k) x + 2 * spread j y)) ∙ ap (λ (z : ℕ). z / 2 ^ (2 * i)) f.1)
    ∙ even-bit i k f.0 (x / 2) (y / 2) (omega arith)
    ∙ ap (λ (z : ℕ). z % 2) (half i x)

odd_bit : (i k x y : ℕ) → i < k → (spread k x + 2 * spread k y) / 2 ^ suc (2 * i) % 2 ≡ y / 2 ^ i % 2
odd_bit i zero x y h = absurd (omega arith)
odd_bit i (suc k) x y h =
    ap (λ (z : ℕ). z % 2)
    (sym (half (2 * i) (spread (suc k) x + 2 * spread (suc k) y)) ∙ ap (λ (z : ℕ). z / 2 ^ (2 * i)) (second k x y))
    ∙ even-bit i (suc k) k y (x / 2) h

-- THEOREM. "Bit i of the subdomain becomes bit 2i of the position, and bit i of the holder bit 2i+1, for i from 0 to 5."
pub position_bits : (holder subdomain i : ℕ) → i < 6
    → (bit (2 * i) (position holder subdomain) ≡ bit i subdomain) × (bit (2 * i + 1) (position holder subdomain) ≡ bit i holder)
position_bits holder subdomain i h =
    let e : 2 * i + 1 ≡ suc (2 * i) = omega arith in
    rw (position-is holder subdomain, e) (even-bit i 6 6 subdomain holder h, odd_bit i 6 subdomain holder h)

-- ---- apart, and together again

-- the even bits of what is interleaved
even : (k j x y : ℕ) → x < 2 ^ k → gather k (spread k x + 2 * spread j y) ≡ x
unfolding gather
even zero j x y h = omega arith
even (suc k) j x y h =
    let f = fourth k j x y in
    rw f.1 (omega (arith, lowest k j x y, even k f.0 (x / 2) (y / 2) (omega arith)))

-- and the odd ones
odd : (k x y : ℕ) → y < 2 ^ k → gather k ((spread k x + 2 * spread k y) / 2) ≡ y
odd zero x y h = unfold gather in omega arith
odd (suc k) x y h = rw (second k x y) (even (suc k) k y (x / 2) h)

-- what is taken apart, interleaved again
again : (k p : ℕ) → p < 4 ^ k → spread k (gather k p) + 2 * spread k (gather k (p / 2)) ≡ p
unfolding spread gather
again zero p h = omega arith
again (suc k) p h = rw (low, high, swap) (omega (arith, again k (p / 4) (omega arith)))
  where
    low : (p % 2 + 2 * gather k (p / 4)) / 2 ≡ gather k (p / 4)
    low = omega arith

    high : (p / 2 % 2 + 2 * gather k (p / 2 / 4)) / 2 ≡ gather k (p / 2 / 4)
    high = omega arith

    swap : p / 2 / 4 ≡ p / 4 / 2
    swap = omega arith

-- ---- cells and positions

-- the cell at a position
abbrev cell_of : ℕ → ℕ
cell_of p = 64 * gather 6 (p / 2) + gather 6 p

position-small : (holder subdomain : ℕ) → position holder subdomain < table_size
position-small holder subdomain =
    omega (arith, position-is holder subdomain, spread-small 6 subdomain, spread-small 6 holder)

pub position-below : (c : ℕ) → position_of c < table_size
position-below c = position-small (c / 64) (c % 64)

cell-small : (p : ℕ) → cell_of p < table_size
cell-small p = omega (arith, gather-small 6 p, gather-small 6 (p / 2))

-- the cell at a cell's position is that cell
cell-position : (c : ℕ) → c < table_size → cell_of (position_of c) ≡ c
cell-position c h =
    rw (position-is (c / 64) (c % 64))
    (omega (arith, odd 6 (c % 64) (c / 64) (omega arith), even 6 6 (c % 64) (c / 64) (omega arith)))

-- the position of a position's cell is that position
position-cell : (p : ℕ) → p < table_size → position_of (cell_of p) ≡ p
position-cell p h = rw (low, high, position-is (gather 6 (p / 2)) (gather 6 p)) (again 6 p h)
  where
    low : cell_of p % 64 ≡ gather 6 p
    low = omega (arith, gather-small 6 p)

    high : cell_of p / 64 ≡ gather 6 (p / 2)
    high = omega (arith, gather-small 6 p)

-- THEOREM. The positions of different cells differ.
pub positions_differ : {a b : ℕ} → a < table_size → b < table_size → position_of a ≡ position_of b → a ≡ b
positions_differ {a} {b} ha hb e = sym (cell-position a ha) ∙ ap cell_of e ∙ cell-position b hb

-- THEOREM. Every number from 0 to 4,095 is some cell's position.
pub positions-fill : (p : ℕ) → p < table_size → (c : ℕ) × (c < table_size) × (position_of c ≡ p)
positions-fill p h = (cell_of p, cell-small p, position-cell p h)

-- ---- "with neighbouring cells close together"

-- a number that has no bit k
spread_top : (k x : ℕ) → x < 2 ^ k → spread (suc k) x ≡ spread k x
unfolding spread
spread_top zero x h = omega arith
spread_top (suc k) x h = omega (arith, spread_top k (x / 2) (omega arith))

-- four cells that form a square stand next to each other
quarter : (holder subdomain : ℕ) → holder < 64 → subdomain < 64 → position holder subdomain / 4 ≡ position (holder / 2) (subdomain / 2)
quarter holder subdomain h l =
    omega (
      arith,
      position-is holder subdomain,
      next 5 5 subdomain holder,
      position-is (holder / 2) (subdomain / 2),
      spread_top 5 (holder / 2) (omega arith),
      spread_top 5 (subdomain / 2) (omega arith),
    )

-- THEOREM. So do those of every square of 2 to the power k holders and as many subdomains that begins at a multiple of it: their
-- positions have one quotient by 4 to the power k, which says where among the squares this one stands, in Z order again.
pub square_together : (k holder subdomain : ℕ) → holder < 64 → subdomain < 64
    → position holder subdomain / 4 ^ k ≡ position (holder / 2 ^ k) (subdomain / 2 ^ k)
square_together zero holder subdomain h l = rw (div-one (position holder subdomain), div-one holder, div-one subdomain)
square_together (suc k) holder subdomain h l =
    ap (λ (y : ℕ). position holder subdomain / y) (pow-succ' 4 k)
    ∙ sym (div-div-eq-div-mul (position holder subdomain) 4 (4 ^ k))
    ∙ ap (λ (y : ℕ). y / 4 ^ k) (quarter holder subdomain h l)
    ∙ square_together k (holder / 2) (subdomain / 2) (omega arith) (omega arith)
    ∙ ap₂ position (half k holder) (half k subdomain)
