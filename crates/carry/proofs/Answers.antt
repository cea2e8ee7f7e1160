-- The answer in numbers determines the carrying out: no two cases of the enum share their number and values. Assumes nothing.
use mathlib.Core.Path.{◌≡◌, refl, sym, ap, ◌∙◌}
use mathlib.Core.Bool.{cond}
use Prim.Native.Nat.{ℕ, ◌≤◌}
use native.Mathlib.Omega.{arith}
use borrow.Author.Tests.{le-leb, lt-leb, ne_eqb}
use lib.Dec.{eqb, leb}
use Rattle.words.specs.declared.WrittenAnswer.{WrittenAnswer}
use Rattle.sheet.specs.Sheet.{refusal_number as sheet_number}
use Rattle.sheet.proofs.Answers.{refusal_of as sheet_refusal, numbered as sheet-numbered}
use Rattle.moves.specs.Moves.{refusal_number as moves_number}
use Rattle.moves.proofs.Answers.{refusal_of as moves_refusal, numbered as moves-numbered}
use Rattle.carry.specs.declared.check.CheckRefusal.{CheckRefusal}
use Rattle.carry.specs.declared.check.CheckRefusal.TheVariants.{Sheet, Moves, NodesDiffer, Sends}
use Rattle.carry.specs.declared.CarryRefusal.{CarryRefusal}
use Rattle.carry.specs.declared.CarryRefusal.TheVariants.{Check, Buffer}
use Rattle.carry.specs.Checks.{check_number}
use Rattle.carry.specs.Carry.{answer_of}
use Rattle.std.specs.Prelude.{Err, Ok, Result}

-- ---- the checks

-- the refusal of a number
abbrev pub check_of : ℕ → CheckRefusal
check_of k = cond (leb k 7) (Sheet (sheet_refusal k)) (cond (leb k 36) (Moves (moves_refusal k)) (cond (eqb k 41) NodesDiffer Sends))

-- their numbers are 1 to 42, and the number tells which refusal it is
pub numbered : (r : CheckRefusal) → (1 ≤ check_number r) × (check_number r ≤ 42) × (check_of (check_number r) ≡ r)
numbered (Sheet r) =
    let n = sheet-numbered r in
    (n.0, omega (arith, n.1), rw (le-leb (sheet_number r) 7 n.1) (ap Sheet n.2))
numbered (Moves r) =
    let n = moves-numbered r in
    let more = lt-leb (moves_number r) 7 (omega (arith, n.0)) in
    (omega (arith, n.0), omega (arith, n.1), rw (more, le-leb (moves_number r) 36 n.1) (ap Moves n.2))
numbered NodesDiffer = (omega arith, omega arith, refl)
numbered Sends = (omega arith, omega arith, refl)

-- ---- the carrying out

-- the refusal of a number
abbrev refusal_of : ℕ → CarryRefusal
refusal_of k = cond (leb k 42) (Check (check_of k)) Buffer

-- the carrying out of an answer
abbrev carrying_of : WrittenAnswer → Result ℕ CarryRefusal
carrying_of a = cond (eqb a.refusal 0) (Ok a.bytes) (Err (refusal_of a.refusal))

back : (c : Result ℕ CarryRefusal) → carrying_of (answer_of c) ≡ c
back (Ok bytes) = refl
back (Err (Check r)) =
    let n = numbered r in
    rw (ne_eqb (check_number r) 0 (λ z. omega (arith, n.0)), le-leb (check_number r) 42 n.1)
    (ap (λ (x : CheckRefusal). Err (Check x)) n.2)
back (Err Buffer) = refl

-- THEOREM. Two carryings out with the same numbers are the same.
pub answer_determines : (a b : Result ℕ CarryRefusal) → answer_of a ≡ answer_of b → a ≡ b
answer_determines a b e = sym (back a) ∙ ap carrying_of e ∙ back b
