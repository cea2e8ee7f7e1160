-- Words in lists of bytes. Document 01, 'Three records': "A word is 4 bytes, unsigned, low byte first."
use Rattle.std.specs.Prelude.{ℕ, ◌+◌, ◌*◌, ◌/◌, ◌%◌, List, [], ◌∷◌, ◌++◌, set, take, drop}

-- the word of four bytes
abbrev pub word : ℕ → ℕ → ℕ → ℕ → ℕ
word a b c d = a + 256 * b + 65536 * c + 16777216 * d

-- all the whole words of a list of bytes, in order
unfoldable pub words : List ℕ → List ℕ
words [] = []
words (a ∷ []) = []
words (a ∷ b ∷ []) = []
words (a ∷ b ∷ c ∷ []) = []
words (a ∷ b ∷ c ∷ d ∷ s) = word a b c d ∷ words s

-- the four bytes of a word
abbrev pub bytes_of : ℕ → List ℕ
bytes_of w = w % 256 ∷ w / 256 % 256 ∷ w / 65536 % 256 ∷ w / 16777216 ∷ []

-- the bytes of words, in order
unfoldable pub encode : List ℕ → List ℕ
encode [] = []
encode (w ∷ ws) = bytes_of w ++ encode ws

-- s with the four bytes of w from index i on
abbrev pub put_word : List ℕ → ℕ → ℕ → List ℕ
put_word s i w = set (set (set (set s i (w % 256)) (i + 1) (w / 256 % 256)) (i + 2) (w / 65536 % 256)) (i + 3) (w / 16777216)

-- the n words from number a on: one of the two parallel arrays of a record
abbrev pub part : ℕ → ℕ → List ℕ → List ℕ
part a n ws = take n (drop a ws)
