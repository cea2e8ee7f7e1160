-- `archive::write::put_archive` meets its contract: at the loop's head the buffer begins with an archive that has, with the counts of the
-- entries left, each cell's count at its position. Assumes nothing.
use mathlib.Core.Path.{◌≡◌}
use mathlib.Core.List.{List, ◌∷◌}
use Prim.Native.Nat.{ℕ}
use Rattle.words.specs.Words.{encode}
use Rattle.words.specs.Buffer.{placed}
use Rattle.archive.specs.Archive.{no_counts}
use Rattle.archive.proofs.Storing.{Storing}
use Rattle.archive.proofs.write.put_archive.Given as goal

-- whatever the buffer was that the empty archive was written to
abbrev pub invariant-loop-i : goal.invariant-loop-i
invariant-loop-i l =
    (xs : List ℕ) × Storing l.s l.n l.e xs l.i
    × ((base : List ℕ) → l.initial.out ≡ placed (encode (l.n ∷ l.t ∷ no_counts)) base → l.out ≡ placed (encode (l.n ∷ l.t ∷ xs)) base)
