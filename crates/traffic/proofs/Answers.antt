-- The answer in numbers determines the printing: no two cases of the enum share their number and values. Assumes nothing.
use mathlib.Core.Path.{◌≡◌, refl, sym, ap, ◌∙◌}
use mathlib.Core.Bool.{cond}
use Prim.Native.Nat.{ℕ}
use native.Mathlib.Omega.{arith}
use borrow.Author.Tests.{le-leb, ne_eqb}
use lib.Dec.{eqb, leb}
use Rattle.words.specs.declared.WrittenAnswer.{WrittenAnswer}
use Rattle.carry.specs.declared.check.CheckRefusal.{CheckRefusal}
use Rattle.carry.specs.Checks.{check_number}
use Rattle.carry.proofs.Answers.{check_of, numbered}
use Rattle.traffic.specs.declared.PageRefusal.{PageRefusal}
use Rattle.traffic.specs.declared.PageRefusal.TheVariants.{Check, Buffer}
use Rattle.traffic.specs.Page.{answer_of}
use Rattle.std.specs.Prelude.{Err, Ok, Result}

-- the refusal of a number
abbrev refusal_of : ℕ → PageRefusal
refusal_of k = cond (leb k 42) (Check (check_of k)) Buffer

-- the printing of an answer
abbrev printing_of : WrittenAnswer → Result ℕ PageRefusal
printing_of a = cond (eqb a.refusal 0) (Ok a.bytes) (Err (refusal_of a.refusal))

back : (p : Result ℕ PageRefusal) → printing_of (answer_of p) ≡ p
back (Ok bytes) = refl
back (Err (Check r)) =
    let n = numbered r in
    rw (ne_eqb (check_number r) 0 (λ z. omega (arith, n.0)), le-leb (check_number r) 42 n.1)
    (ap (λ (x : CheckRefusal). Err (Check x)) n.2)
back (Err Buffer) = refl

-- THEOREM. Two printings with the same numbers are the same.
pub answer_determines : (a b : Result ℕ PageRefusal) → answer_of a ≡ answer_of b → a ≡ b
answer_determines a b e = sym (back a) ∙ ap printing_of e ∙ back b
