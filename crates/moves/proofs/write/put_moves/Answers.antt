-- `moves::write::put_moves` meets its contract: the two words of the head and the two runs behind it are one record. Assumes
-- nothing.
use mathlib.Core.Path.{◌≡◌, refl, sym, ap, ap₂, ◌∙◌}
use mathlib.Core.List.{List, [], ◌∷◌, ◌++◌}
use Prim.Native.Nat.{ℕ, ◌+◌, ◌*◌, ◌≤◌}
use native.Mathlib.Omega.{arith}
use lib.ListN.{length}
use lib.Seq.{sets, take_all}
use Rattle.words.specs.Words.{encode, put_word}
use Rattle.words.specs.Buffer.{placed}
use Rattle.words.proofs.Buffer.{record_placed}
use Rattle.moves.specs.Write.{moves_bytes}
use Rattle.moves.proofs.write.put_moves.Goals as goal

stores : (out routes counts : List ℕ) (n : ℕ) → length routes ≡ length counts → 4 * (2 + 2 * length routes) ≤ length out
    → sets (sets (put_word (put_word out 0 n) 4 (length routes)) 8 (encode routes)) (4 * (2 + length routes)) (encode counts)
    ≡ placed (moves_bytes n (length routes) routes counts) out
unfolding encode moves_bytes
stores out routes counts n same fits =
    let e = length routes in
    let whole = ap₂ (λ (xs ys : List ℕ). encode ((n ∷ e ∷ []) ++ xs ++ ys)) (take_all e routes (omega arith)) (take_all e counts (omega arith)) in
    record_placed out (n ∷ e ∷ []) routes counts 8 (4 * (2 + e)) refl (omega arith) (omega arith) ∙ ap (λ (r : List ℕ). placed r out) (sym whole)

pub returns : goal.returns
returns c =
    let a = c.args in
    rw (c.put_words-2.ensures, c.put_words.ensures, c.put_word-2.ensures, c.put_word.ensures)
    (stores a.out.now a.routes.now a.counts.now a.n (omega arith) (omega arith))
