-- What the inner functions of this crate ask of each other. No promise to a caller rests on these definitions.
use Rattle.std.specs.Prelude.{ℕ, ◌+◌, ◌%◌, ◌≡◌, List, cond, eqb, length}
use Rattle.std.proofs.lemmas.List.Edits.{sets}
use Rattle.text.specs.Text.{digit, blank}

-- the buffer `before` with the text from index `at` on is `after`, and `next` is the index behind the text
pub record Put (before : List ℕ) (at : ℕ) (text after : List ℕ) (next : ℕ) : Type 0 where
  pub index : next ≡ at + length text
  pub bytes : after ≡ sets before at text

-- a column before the last, where `rest` is what is left of the number: its last digit, or a blank where nothing is left
abbrev pub column_byte : ℕ → ℕ
column_byte rest = cond (eqb rest 0) blank (digit (rest % 10))
