-- Request 2026-05: the position of each cell in an archive. The order is known as Z order, or Morton order.
use Rattle.std.specs.Prelude.{◌≡◌, List, ℕ, ◌+◌, ◌*◌, ◌/◌, ◌%◌, ◌^◌, ◌<◌}
use Rattle.fold.specs.Sum.{sum}
use Rattle.arrays.specs.Arrays.{at}
use Rattle.limit.specs.Limit.{table_size}

-- bit i of x, of weight 2 to the power i
abbrev pub bit : ℕ → ℕ → ℕ
bit i x = x / 2 ^ i % 2

-- "Bit i of the subdomain becomes bit 2i of the position, and bit i of the holder bit 2i+1, for i from 0 to 5."
unfoldable pub position : ℕ → ℕ → ℕ
position holder subdomain = sum 6 (λ i. 2 ^ (2 * i) * bit i subdomain + 2 ^ (2 * i + 1) * bit i holder)

-- the position of a cell: "A cell is holder × 64 + subdomain."
abbrev pub position_of : ℕ → ℕ
position_of c = position (c / 64) (c % 64)

-- an array that has at each cell its position
abbrev pub Positions : List ℕ → Type 0
Positions xs = (c : ℕ) → c < table_size → at xs c ≡ position_of c
