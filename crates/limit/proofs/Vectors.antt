-- The limit by example: request 2026-01, "Our long runs sit between 3 and 4 percent". The theorem computes. Assumes nothing.
use mathlib.Core.Path.{◌≡◌, refl}
use Rattle.limit.specs.Limit.{limit_of}

-- 10,000 particles on 3 nodes at 3, 3.5 and 4 percent: 10,300,000, 10,350,000 and 10,400,000 over 3,000
pub three_and-a_half : (limit_of 10000 3 30 ≡ 3433) × (limit_of 10000 3 35 ≡ 3450) × (limit_of 10000 3 40 ≡ 3466)
unfolding limit_of
three_and-a_half = (refl, refl, refl)
