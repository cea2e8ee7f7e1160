-- The ways out of an operation that writes one record: it refuses and leaves the buffer; the record is written; the buffer is too short
-- for it. Assumes nothing.
use mathlib.Core.Path.{◌≡◌, sym, ap, ◌∙◌}
use mathlib.Core.Logic.{◌≢◌}
use mathlib.Core.List.{List}
use Prim.Native.Nat.{ℕ}
use borrow.Author.Tests.{lt-ltb, le-ltb, ne_eqb}
use lib.Dec.{ltb}
use lib.ListN.{length}
use Rattle.words.specs.declared.WrittenAnswer.{WrittenAnswer}
use Rattle.words.specs.Checks.{refuse_if}
use Rattle.words.specs.Buffer.{after_call, written, writing, too_short}
use Rattle.words.specs.Answer.{refused, accepted}
use Rattle.words.proofs.Buffer.{writing-bytes, writing_short}
use Rattle.std.specs.Prelude.{Err, Ok}

module _ (answer : WrittenAnswer) (rec out : List ℕ) where
  -- what was answered, and the buffer as it is then
  abbrev pub Ends : WrittenAnswer → List ℕ → Type 0
  Ends a out₁ = (a ≡ answer) × (out₁ ≡ after_call answer.refusal rec out)

  pub ends_refused : (k : ℕ) → k ≢ 0 → refused k ≡ answer → Ends (refused k) out
  ends_refused k d e = (e, rw (← e, ne_eqb k 0 d))

  -- past all checks but the last: the record that was handed to the writer is the one to be written
  module _ (k : ℕ) (last : answer ≡ refuse_if (ltb (length out) (length rec)) (refused k) (accepted (length rec))) {handed : List ℕ}
      (is : handed ≡ rec) where
    pub ends_written : (size : ℕ) → Ok size ≡ writing handed out → Ends (accepted size) (written handed out)
    ends_written size b =
        let z = writing-bytes rec out size (rw is at b) in
        let a : accepted size ≡ answer = rw z.0 (sym (last ∙ rw (le-ltb (length out) (length rec) z.1))) in
        (a, ap (λ (x : List ℕ). written x out) is ∙ z.2 ∙ rw (← a))

    pub ends_short : k ≢ 0 → Err too_short ≡ writing handed out → Ends (refused k) (written handed out)
    ends_short d b =
        let z = writing_short rec out (rw is at b) in
        rw (is, z.1) (ends_refused k d (sym (last ∙ rw (lt-ltb (length out) (length rec) z.0))))
