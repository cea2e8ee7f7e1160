-- The moves of two arrays: "Moves: N, E; E routes; E counts."
use Rattle.std.specs.Prelude.{ℕ, ◌+◌, ◌-◌, ◌*◌, List, [], ◌∷◌, ◌++◌, take}
use Rattle.words.specs.Words.{encode}

abbrev pub moves_words : ℕ → ℕ → List ℕ → List ℕ → List ℕ
moves_words n e routes counts = (n ∷ e ∷ []) ++ take e routes ++ take e counts

unfoldable pub moves_bytes : ℕ → ℕ → List ℕ → List ℕ → List ℕ
moves_bytes n e routes counts = encode (moves_words n e routes counts)

-- the length in bytes of the longest moves of n nodes: "E above N × (N−1)" is refused
abbrev pub longest_moves : ℕ → ℕ
longest_moves n = 4 * (2 + 2 * (n * (n - 1)))
