-- The plan of two arrays: "Plan: N, kind, limit; N helpands; N shares."
use Rattle.std.specs.Prelude.{ℕ, ◌+◌, ◌*◌, List, [], ◌∷◌, ◌++◌, take}
use Rattle.words.specs.Words.{encode}

abbrev pub plan_words : ℕ → ℕ → ℕ → List ℕ → List ℕ → List ℕ
plan_words n kind limit helpands shares = (n ∷ kind ∷ limit ∷ []) ++ take n helpands ++ take n shares

unfoldable pub plan_bytes : ℕ → ℕ → ℕ → List ℕ → List ℕ → List ℕ
plan_bytes n kind limit helpands shares = encode (plan_words n kind limit helpands shares)

-- its length in bytes: "length not 4 × (3+2N)" is refused
abbrev pub plan_length : ℕ → ℕ
plan_length n = 4 * (3 + 2 * n)
