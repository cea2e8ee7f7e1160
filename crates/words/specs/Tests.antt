-- What a test of words that is handed to a function decides.
use Rattle.std.specs.Prelude.{◌≡◌, ℕ, ◌<◌, ◌^◌, Bool}

-- each answer that the test may give of a word is that of ok
abbrev pub Tests : (ℕ → Bool → Type 0) → (ℕ → Bool) → Type 0
Tests answers ok = (w : ℕ) (b : Bool) → w < 2 ^ 32 → answers w b → b ≡ ok w
