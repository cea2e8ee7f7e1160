-- The text depends on the first 33,305 bytes of the input alone. The longest input that can be accepted has 33,304 bytes. Of a longer one
-- the header is refused, or the sheet, or the old plan: each time by what stands in front. So a program that keeps 33,305 bytes answers
-- for standard input of any length. Assumes nothing.
use mathlib.Core.Path.{◌≡◌, refl, sym, ap, ◌∙◌}
use mathlib.Core.Logic.{◌≢◌}
use mathlib.Core.List.{List, ◌++◌}
use Prim.Native.Nat.{ℕ, ◌+◌, ◌*◌, ◌≤◌, ◌<◌}
use native.Mathlib.Decide.{ℕ_discrete, dec_lt}
use native.Mathlib.Nat.{mul-le-mul}
use native.Mathlib.Omega.{arith}
use lib.ListN.{length, take, drop, length-append, length-drop, take-append-drop}
use lib.Seq.{take_all, take-length, length-take-le, take-append-le, drop-append-le}
use Rattle.limit.specs.Limit.{max_nodes}
use Rattle.sheet.specs.declared.SheetAnswer.{SheetAnswer}
use Rattle.sheet.specs.Sheet.{HeaderAnswer, read_header, read_sheet, refused}
use Rattle.sheet.specs.Write.{longest_sheet}
use Rattle.sheet.proofs.Accepted.{header_fine, header_refuses, header_front}
use Rattle.plan.specs.declared.PlanAnswer.{PlanAnswer}
use Rattle.plan.specs.Plan.{read_plan}
use Rattle.plan.specs.Write.{plan_length}
use Rattle.plan.proofs.Longer.{longer_refused, longer_front}
use Rattle.planner.specs.declared.StepAnswer.{StepAnswer}
use Rattle.planner.proofs.Ways.{old-refused, step-sheet, step-old}
use Rattle.text.specs.Text.{refused_text}
use Rattle.text.specs.Split.{split_at}
use Rattle.text.proofs.Splitting.{split-whole, split-size}
use Rattle.run.specs.Run.{plan_size, moves_size, front_size, text_in, run_text}
use Rattle.run.proofs.Planned.{text_refused}

-- ---- a refused sheet

sheet_text : (s o : List ℕ) → (read_sheet s).refusal ≢ 0 → text_in s o ≡ refused_text (read_sheet s).refusal
sheet_text s o d =
    let k = (read_sheet s).refusal in
    text_refused s o k (ap (λ (a : StepAnswer). a.refusal) (step-sheet s o plan_size moves_size k refl d)) d

-- ---- an old plan that is longer than every plan: what follows it plays no part

module _ (s o r : List ℕ) (l : plan_length max_nodes < length o) where
  plan_text : (p : List ℕ) → length p ≢ 0 → (read_plan p).refusal ≡ (read_plan o).refusal → (read_sheet s).refusal ≡ 0
      → text_in s p ≡ refused_text (read_plan o).refusal
  plan_text p full e z =
      let k = (read_plan o).refusal in
      let some = longer_refused o l in
      let old = old-refused p (read_sheet s).n full k (sym e) some in
      let step = step-old s p plan_size moves_size (read_sheet s).n (sym z) refl k old some in
      text_refused s p k (ap (λ (a : StepAnswer). a.refusal) step) some

  same_text : text_in s (o ++ r) ≡ text_in s o
  same_text =
      elim (ℕ_discrete (read_sheet s).refusal 0) [
        | yes z ↦
            plan_text (o ++ r) (λ x. omega (arith, length-append o r)) (ap (λ (a : PlanAnswer). a.refusal) (longer_front o l r)) z
            ∙ sym (plan_text o (λ x. omega arith) refl z)
        | no d ↦ sheet_text s (o ++ r) d ∙ sym (sheet_text s o d)
      ]

-- ---- an input f of 33,305 bytes, and what follows it

module _ (f r : List ℕ) (size : length f ≡ front_size) where
  front : read_header (f ++ r) ≡ read_header f
  front = header_front f r (omega arith)

  -- the header is refused: all the input is the sheet
  head-run : (read_header f).refusal ≢ 0 → run_text (f ++ r) ≡ run_text f
  unfolding run_text
  head-run d = whole (f ++ r) front ∙ sym (whole f refl)
    where
      whole : (s : List ℕ) → read_header s ≡ read_header f
          → text_in (take (split_at s) s) (drop (split_at s) s) ≡ refused_text (read_header f).refusal
      whole s e =
          let some : (read_header s).refusal ≢ 0 = rw e d in
          let read = header_refuses s some ∙ ap (λ (h : HeaderAnswer). refused h.refusal) e in
          rw (split-whole s some, take-length s)
          (sheet_text s (drop (length s) s) (rw read d) ∙ ap (λ (a : SheetAnswer). refused_text a.refusal) read)

  -- it is not: the sheet ends where the header says, and what follows f is behind an old plan that is too long
  sheet-run : (read_header f).refusal ≡ 0 → run_text (f ++ r) ≡ run_text f
  unfolding run_text
  sheet-run q =
      let h = header_fine f q in
      let at = 4 * (3 + 2 * (read_header f).e) in
      let high : at ≤ longest_sheet max_nodes =
      omega (arith, ap (λ (a : HeaderAnswer). a.e) h.is, h.e_high, mul-le-mul h.n_high h.n_high) in
      let l : at ≤ length f = omega arith in
      let w : split_at f ≡ at = split-size f q ∙ omega arith in
      let v : split_at (f ++ r) ≡ at = split-size (f ++ r) (rw front q) ∙ rw front (omega (arith, length-append f r)) in
      rw (v, w, take-append-le at f r l, drop-append-le at f r l) (same_text (take at f) (drop at f) r (omega (arith, length-drop at f)))

-- THEOREM. The text depends on the first 33,305 bytes of the input alone.
pub long_input : (input : List ℕ) → run_text input ≡ run_text (take front_size input)
long_input input =
    elim (dec_lt front_size (length input)) [
      | yes l ↦
          ap run_text (sym (take-append-drop front_size input))
          ∙ kept (take front_size input) (drop front_size input) (length-take-le front_size input (omega arith))
      | no g ↦ ap run_text (sym (take_all front_size input (omega arith)))
    ]
  where
    kept : (f r : List ℕ) → length f ≡ front_size → run_text (f ++ r) ≡ run_text f
    kept f r e = elim (ℕ_discrete (read_header f).refusal 0) [ yes q ↦ sheet-run f r e q | no d ↦ head-run f r e d ]
