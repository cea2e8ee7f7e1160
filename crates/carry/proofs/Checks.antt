-- The checks up to 42: one law for each way out, what they say together, and what is known of a sheet and moves that were read.
-- Assumes nothing.
use mathlib.Core.Path.{◌≡◌, refl, sym, ap, ◌∙◌}
use mathlib.Core.Logic.{◌≢◌}
use mathlib.Core.Bool.{true, false, not}
use mathlib.Core.List.{List}
use Prim.Native.Nat.{ℕ, ◌≤◌}
use native.Mathlib.Omega.{arith}
use borrow.Author.Tests.{eqb-true, eq-eqb, ne_eqb, not-false}
use lib.Dec.{eqb}
use Rattle.fold.proofs.Tests.{passed, handed, most}
use Rattle.words.specs.Checks.{refuse_as}
use Rattle.words.specs.Answer.{refused}
use Rattle.words.specs.declared.WrittenAnswer.{WrittenAnswer}
use Rattle.words.proofs.Writing.{Ends, ends_refused}
use Rattle.sheet.specs.declared.Sheet.{Sheet}
use Rattle.sheet.specs.declared.SheetAnswer.{SheetAnswer}
use Rattle.sheet.specs.Sheet.{read_sheet, accepted as sheet_accepted}
use Rattle.sheet.specs.Table.{table_of}
use Rattle.sheet.proofs.Accepted.{Accepted as AcceptedSheet, reading_accepted}
use Rattle.sheet.proofs.Refusals.{sheet-most}
use Rattle.sheet.proofs.Tables.{length-table}
use Rattle.moves.specs.declared.Moves.{Moves}
use Rattle.moves.specs.declared.MovesAnswer.{MovesAnswer}
use Rattle.moves.specs.Moves.{read_moves, routes_of, counts_of, accepted as moves_accepted}
use Rattle.moves.proofs.Accepted.{Accepted as AcceptedMoves, reading_accepted as moves-reading, route-at}
use Rattle.moves.proofs.Refusals.{moves-most}
use Rattle.transfer.specs.Apply.{sends_within}
use Rattle.transfer.specs.Inner.{Readable, Ready}
use Rattle.carry.specs.declared.check.CheckRefusal.{CheckRefusal}
use Rattle.carry.specs.Checks.{check_number, within_in, checked}
use Rattle.carry.specs.Inner.{PairAccepted, PairRead}
use Rattle.carry.proofs.Answers.{numbered}
use Rattle.std.specs.Prelude.{Err, Ok, Result}

-- every check passes
pub record Carriable (s m : List ℕ) : Type 0 where
  pub sheet : (read_sheet s).refusal ≡ 0
  pub moves : (read_moves m).refusal ≡ 0
  pub nodes : (read_sheet s).n ≡ (read_moves m).n
  pub within : within_in s m ≡ true

-- ---- the ways out

module _ (s m : List ℕ) where
  pub stops_sheet : (k : ℕ) → k ≡ (read_sheet s).refusal → k ≢ 0 → k ≡ checked s m
  unfolding checked
  stops_sheet k e d = rw (← e, ne_eqb k 0 d)

  pub stops_moves : 0 ≡ (read_sheet s).refusal → (k : ℕ) → k ≡ (read_moves m).refusal → k ≢ 0 → k ≡ checked s m
  unfolding checked
  stops_moves z k e d = rw (← z, ← e, ne_eqb k 0 d)

  -- both were read
  pub stops_differ : {h : Sheet} {q : Moves} → sheet_accepted h.n h.t h.e h.p h.limit ≡ read_sheet s
      → moves_accepted q.n q.e ≡ read_moves m → h.n ≢ q.n → 41 ≡ checked s m
  unfolding checked
  stops_differ {h} {q} a b d = rw (← a, ← b, ne_eqb h.n q.n d)

-- what reading both gave
module _ (s m : List ℕ) {p : Result (Sheet × Moves) CheckRefusal} (gave : PairRead s m p) where
  pub pair-refused : {r : CheckRefusal} → p ≡ Err r → check_number r ≡ checked s m
  pair-refused e = (rw e at gave).0

  pub pair-accepted : {h : Sheet} {q : Moves} → p ≡ Ok (h, q) → PairAccepted s m h q
  pair-accepted e = rw e at gave

-- past 41
module _ {s m : List ℕ} {h : Sheet} {q : Moves} (r : PairAccepted s m h q) where
  pub stops_sends : within_in s m ≡ false → 42 ≡ checked s m
  unfolding checked
  stops_sends f = rw f (rw (← r.sheet, ← r.moves, eq-eqb h.n q.n r.nodes))

  pub stops_nowhere : within_in s m ≡ true → Carriable s m
  stops_nowhere w =
      record {
        sheet = sym (ap (λ (a : SheetAnswer). a.refusal) r.sheet);
        moves = sym (ap (λ (a : MovesAnswer). a.refusal) r.moves);
        nodes = rw (← r.sheet, ← r.moves) r.nodes;
        within = w;
      }

-- an operation that begins with the checks: where one refuses, it answers with its number and leaves the buffer
pub ends_checked : (s m : List ℕ) (answer rest : WrittenAnswer) → answer ≡ refuse_as refused (checked s m) rest → (rec out : List ℕ)
    → (r : CheckRefusal) → check_number r ≡ checked s m → Ends answer rec out (refused (check_number r)) out
ends_checked s m answer rest begins rec out r e =
    let k = check_number r in
    let d : k ≢ 0 = λ z. omega (arith, (numbered r).0) in
    ends_refused answer rec out k d (sym (begins ∙ rw (← e, ne_eqb k 0 d)))

-- ---- what they say together

module _ (s m : List ℕ) where
  pub carriable : checked s m ≡ 0 → Carriable s m
  unfolding checked
  carriable q =
      let f : ℕ → ℕ = λ k. k in
      let n = (read_sheet s).n in
      let a₁ = handed f f (λ k. refl) (read_sheet s).refusal _ q in
      let a₂ = handed f f (λ k. refl) (read_moves m).refusal _ a₁.1 in
      let a₃ = passed f (not (eqb n (read_moves m).n)) 41 _ (λ z. omega arith) a₂.1 in
      let a₄ = passed f (not (within_in s m)) 42 _ (λ z. omega arith) a₃.1 in
      let same = eqb-true n (read_moves m).n (not-false _ a₃.0) in
      record { sheet = a₁.0; moves = a₂.0; nodes = same; within = not-false _ a₄.0 }

  -- and conversely
  pub carriable_checked : Carriable s m → checked s m ≡ 0
  unfolding checked
  carriable_checked d =
      let a : eqb (read_sheet s).refusal 0 ≡ true = eq-eqb (read_sheet s).refusal 0 d.sheet in
      let b : eqb (read_moves m).refusal 0 ≡ true = eq-eqb (read_moves m).refusal 0 d.moves in
      let c : eqb (read_sheet s).n (read_moves m).n ≡ true = eq-eqb (read_sheet s).n (read_moves m).n d.nodes in
      rw (a, b, c, d.within)

  pub checked-most : checked s m ≤ 42
  unfolding checked
  checked-most =
      let f : ℕ → ℕ = λ k. k in
      let k = (read_sheet s).refusal in
      let j = (read_moves m).refusal in
      let z : 0 ≤ 42 = omega arith in
      most f 42 (not (eqb k 0)) k _ (omega (arith, sheet-most s))
      (most f 42 (not (eqb j 0)) j _ (omega (arith, moves-most m))
      (most f 42 (not (eqb (read_sheet s).n (read_moves m).n)) 41 _ (omega arith) (most f 42 (not (within_in s m)) 42 _ (omega arith) z)))

-- ---- what is known of a sheet and moves that were read

module _ {s m : List ℕ} {h : Sheet} {q : Moves} (r : PairAccepted s m h q) where
  pub sheet_facts : AcceptedSheet s (sheet_accepted h.n h.t h.e h.p h.limit)
  sheet_facts = reading_accepted s h r.sheet

  moves_facts : AcceptedMoves m (moves_accepted q.n q.e)
  moves_facts = moves-reading m q r.moves

  pub readable : Readable m q.e
  readable =
      record {
        long = omega (arith, moves_facts.size);
        below = λ i l. omega (arith, (route-at m (moves_accepted q.n q.e) moves_facts i l).subdomain_below, moves_facts.n_high);
      }

  -- the sheet's table, as it is unpacked: the moves can be applied to it, and their sends tested
  module _ {table : List ℕ} (is : table ≡ table_of s h.e) where
    pub ready : Ready table m q.e
    ready = rw is (record { size = length-table s h.e; entries = readable })

    pub within-is : sends_within table (routes_of m q.e) (counts_of m q.e) ≡ within_in s m
    within-is = rw (is, ← r.sheet, ← r.moves)
