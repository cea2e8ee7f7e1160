-- Laws of a plan's bytes: their number, and that a head and two runs of words are a plan in the buffer. Assumes nothing.
use mathlib.Core.Path.{◌≡◌}
use mathlib.Core.List.{List, [], ◌∷◌}
use Prim.Native.Nat.{ℕ, ◌+◌, ◌*◌, ◌≤◌}
use native.Mathlib.Omega.{arith}
use lib.ListN.{length, take, length-append}
use lib.Seq.{sets, length-take-le}
use Rattle.words.specs.Words.{encode}
use Rattle.words.specs.Buffer.{placed}
use Rattle.words.proofs.Words.{length-encode}
use Rattle.words.proofs.Buffer.{record_placed}
use Rattle.plan.specs.Write.{plan_words, plan_bytes}

module _ (n kind limit : ℕ) (helpands shares : List ℕ) (lh : n ≤ length helpands) (ls : n ≤ length shares) where
  length-plan-words : length (plan_words n kind limit helpands shares) ≡ 3 + 2 * n
  length-plan-words = simp (length-append, length-take-le n helpands lh, length-take-le n shares ls) (omega arith)

  pub length-plan : length (plan_bytes n kind limit helpands shares) ≡ 4 * (3 + 2 * n)
  unfolding plan_bytes
  length-plan = omega (arith, length-encode (plan_words n kind limit helpands shares), length-plan-words)

  pub plan-placed : (out : List ℕ) → 4 * (3 + 2 * n) ≤ length out
      → sets (sets (sets out 0 (encode (n ∷ kind ∷ limit ∷ []))) 12 (encode (take n helpands))) (4 * (3 + n)) (encode (take n shares))
      ≡ placed (plan_bytes n kind limit helpands shares) out
  unfolding plan_bytes
  plan-placed out h =
      let a : length (take n helpands) ≡ n = length-take-le n helpands lh in
      let b : length (take n shares) ≡ n = length-take-le n shares ls in
      record_placed out (n ∷ kind ∷ limit ∷ []) (take n helpands) (take n shares) 12 (4 * (3 + n)) (omega arith) (omega arith) (omega arith)
