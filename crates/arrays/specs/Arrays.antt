-- Arrays of 64 numbers, one for each node.
use Rattle.std.specs.Prelude.{ℕ, ◌-◌, List, [], ◌∷◌, ◌++◌, length, get_or, replicate}
use Rattle.fold.specs.Collect.{collect}

-- entry k of an array
abbrev pub at : List ℕ → ℕ → ℕ
at xs k = get_or xs k 0

-- an array of 64 that begins with xs, and zeros behind them
abbrev pub padded : List ℕ → List ℕ
padded xs = xs ++ replicate (64 - length xs) 0

-- an array of 64 with f k at each node k, and zeros behind them
unfoldable pub tabulate : ℕ → (ℕ → ℕ) → List ℕ
tabulate nodes f = padded (collect nodes (λ k. f k ∷ []))
