-- What a writer of texts in a lent buffer does.
use Rattle.std.specs.Prelude.{ℕ, ◌+◌, ◌≡◌, ◌≤◌, List, length}
use Rattle.std.proofs.lemmas.List.Edits.{sets}
use Rattle.text.specs.declared.put.Writer.{Writer}

-- there is room for so many bytes more
abbrev pub Room : Writer → ℕ → Type 0
Room w n = w.at + n ≤ length w.out.now

-- the writer `before`, with the text behind what it had written, is `after`: in the same buffer, which is as long as it was
pub record Wrote (before : Writer) (text : List ℕ) (after : Writer) : Type 0 where
  pub same : after.out.ghost_name ≡ before.out.ghost_name
  pub long : length after.out.now ≡ length before.out.now
  pub at : after.at ≡ before.at + length text
  pub bytes : after.out.now ≡ sets before.out.now before.at text
