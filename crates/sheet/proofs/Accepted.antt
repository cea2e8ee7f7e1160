-- What is known of a sheet that was accepted, and that the answer in numbers determines the reading. Assumes nothing.
use mathlib.Core.Path.{◌≡◌, refl, sym, ap, ◌∙◌}
use mathlib.Core.Logic.{◌≢◌}
use mathlib.Core.List.{List, ◌++◌}
use mathlib.Core.Bool.{true, not}
use Prim.Native.Nat.{ℕ, ◌+◌, ◌*◌, ◌≤◌}
use native.Mathlib.Omega.{arith}
use borrow.Author.Tests.{ltb-false, le-ltb, eqb-true, ne_eqb, not-false}
use lib.Dec.{ltb, eqb}
use lib.ListN.{length, get_or, length-append}
use Rattle.fold.specs.Rising.{rising}
use Rattle.fold.proofs.Tests.{passed, handed}
use Rattle.limit.specs.Limit.{max_nodes, max_tolerance, one_to, limit_of}
use Rattle.limit.proofs.Laws.{one-to-is}
use Rattle.words.specs.Words.{words}
use Rattle.words.proofs.Words.{length-words, length_part, word-front}
use Rattle.sheet.specs.declared.Sheet.{Sheet}
use Rattle.sheet.specs.declared.SheetAnswer.{SheetAnswer}
use Rattle.sheet.specs.Sheet.{accepted, refused, cells_of, counts_of, cell_fine, running_sum, summed_answer, HeaderAnswer, header_refused, header_accepted, ranges_answer, read_header, entries_answer, read_sheet}
use Rattle.sheet.specs.Inner.{Unpackable}
use Rattle.sheet.proofs.Laws.{Summed, summed}
use Rattle.std.specs.Prelude.{None, Option, Some}

pub record Accepted (s : List ℕ) (a : SheetAnswer) : Type 0 where
  pub answer : a ≡ accepted a.n a.t a.e a.p a.limit
  pub n_is : a.n ≡ get_or (words s) 0 0
  pub t_is : a.t ≡ get_or (words s) 1 0
  pub e_is : a.e ≡ get_or (words s) 2 0
  pub n_low : 1 ≤ a.n
  pub n_high : a.n ≤ max_nodes
  pub t_low : 1 ≤ a.t
  pub t_high : a.t ≤ max_tolerance
  pub e_high : a.e ≤ a.n * a.n
  pub size : length s ≡ 4 * (3 + 2 * a.e)
  pub cells : rising (cell_fine a.n) 0 (cells_of s a.e) ≡ true
  pub sum : Summed 0 (counts_of s a.e) a.p
  pub limit_is : a.limit ≡ limit_of a.p a.n a.t

-- a sum was found
found : (n t e : ℕ) (x : Option ℕ) → (summed_answer n t e x).refusal ≡ 0 → (p : ℕ) × (x ≡ Some p)
found n t e (Some p) q = (p, refl)
found n t e None q = absurd (omega arith)

-- ---- the header

-- what is known of a header that passes checks 1 to 4
pub record FineHeader (s : List ℕ) : Type 0 where
  pub long : 12 ≤ length s
  pub is : read_header s ≡ header_accepted (get_or (words s) 0 0) (get_or (words s) 1 0) (get_or (words s) 2 0)
  pub n_low : 1 ≤ get_or (words s) 0 0
  pub n_high : get_or (words s) 0 0 ≤ max_nodes
  pub t_low : 1 ≤ get_or (words s) 1 0
  pub t_high : get_or (words s) 1 0 ≤ max_tolerance
  pub e_high : get_or (words s) 2 0 ≤ get_or (words s) 0 0 * get_or (words s) 0 0

pub header_fine : (s : List ℕ) → (read_header s).refusal ≡ 0 → FineHeader s
unfolding read_header
header_fine s q =
    let n = get_or (words s) 0 0 in
    let t = get_or (words s) 1 0 in
    let e = get_or (words s) 2 0 in
    let f : HeaderAnswer → ℕ = λ a. a.refusal in
    let a₁ = passed f (ltb (length s) 12) (header_refused 1) (ranges_answer n t e) (λ z. omega arith) q in
    let a₂ = passed f (not (one_to max_nodes n)) (header_refused 2) _ (λ z. omega arith) a₁.1 in
    let a₃ = passed f (not (one_to max_tolerance t)) (header_refused 3) _ (λ z. omega arith) a₂.1 in
    let a₄ = passed f (ltb (n * n) e) (header_refused 4) _ (λ z. omega arith) a₃.1 in
    let nodes = one-to-is max_nodes n (not-false _ a₂.0) in
    let tolerance = one-to-is max_tolerance t (not-false _ a₃.0) in
    record {
      long = ltb-false (length s) 12 a₁.0;
      is = rw (a₁.0, a₂.0, a₃.0, a₄.0);
      n_low = nodes.0;
      n_high = nodes.1;
      t_low = tolerance.0;
      t_high = tolerance.1;
      e_high = ltb-false (n * n) e a₄.0;
    }

-- a header that is refused refuses the sheet
pub header_refuses : (s : List ℕ) → (read_header s).refusal ≢ 0 → read_sheet s ≡ refused (read_header s).refusal
unfolding read_sheet
header_refuses s d = rw (ne_eqb (read_header s).refusal 0 d)

-- past it the entries decide
pub header_passes : (s : List ℕ) → FineHeader s
    → read_sheet s ≡ entries_answer s (get_or (words s) 0 0) (get_or (words s) 1 0) (get_or (words s) 2 0)
unfolding read_sheet
header_passes s h = rw h.is

-- a fine header with another length is refused with 5
pub length-refused : (s : List ℕ) → FineHeader s → length s ≢ 4 * (3 + 2 * get_or (words s) 2 0) → read_sheet s ≡ refused 5
length-refused s h d = header_passes s h ∙ rw (ne_eqb (length s) (4 * (3 + 2 * get_or (words s) 2 0)) d)

-- the header is the first twelve bytes, whatever follows
pub header_front : (s p : List ℕ) → 12 ≤ length s → read_header (s ++ p) ≡ read_header s
unfolding read_header
header_front s p h =
    let l : 12 ≤ length (s ++ p) = simp length-append (omega arith) in
    rw (
      le-ltb (length (s ++ p)) 12 l,
      le-ltb (length s) 12 h,
      word-front s p 0 (omega arith),
      word-front s p 1 (omega arith),
      word-front s p 2 (omega arith),
    )

-- ---- the sheet

-- an accepted sheet has a fine header
pub accepted_header : (s : List ℕ) → (read_sheet s).refusal ≡ 0 → FineHeader s
unfolding read_sheet
accepted_header s q = header_fine s (handed (λ (a : SheetAnswer). a.refusal) refused (λ k. refl) (read_header s).refusal _ q).0

pub sheet-accepted : (s : List ℕ) → (read_sheet s).refusal ≡ 0 → Accepted s (read_sheet s)
sheet-accepted s q = rw (header_passes s h) (entries-accepted (rw (header_passes s h) at q))
  where
    n : ℕ
    n = get_or (words s) 0 0

    t : ℕ
    t = get_or (words s) 1 0

    e : ℕ
    e = get_or (words s) 2 0

    h : FineHeader s
    h = accepted_header s q

    entries-accepted : (entries_answer s n t e).refusal ≡ 0 → Accepted s (entries_answer s n t e)
    entries-accepted p =
        let f : SheetAnswer → ℕ = λ a. a.refusal in
        let a₅ = passed f (not (eqb (length s) (4 * (3 + 2 * e)))) (refused 5) _ (λ z. omega arith) p in
        let a₆ = passed f (not (rising (cell_fine n) 0 (cells_of s e))) (refused 6) _ (λ z. omega arith) a₅.1 in
        let x = found n t e (running_sum 0 (counts_of s e)) a₆.1 in
        rw (a₅.0, a₆.0, x.1)
        (record {
          answer = refl;
          n_is = refl;
          t_is = refl;
          e_is = refl;
          n_low = h.n_low;
          n_high = h.n_high;
          t_low = h.t_low;
          t_high = h.t_high;
          e_high = h.e_high;
          size = eqb-true (length s) (4 * (3 + 2 * e)) (not-false _ a₅.0);
          cells = not-false _ a₆.0;
          sum = summed 0 (counts_of s e) x.0 (omega arith) x.1;
          limit_is = refl;
        })

-- the same of a reading
pub reading_accepted : (s : List ℕ) (h : Sheet) → accepted h.n h.t h.e h.p h.limit ≡ read_sheet s
    → Accepted s (accepted h.n h.t h.e h.p h.limit)
reading_accepted s h e = rw e (sheet-accepted s (ap (λ (a : SheetAnswer). a.refusal) (sym e)))

-- ---- what callers need of an accepted sheet

module _ (s : List ℕ) (a : SheetAnswer) (k : Accepted s a) where
  pub words_are : length (words s) ≡ 3 + 2 * a.e
  words_are = length-words s ∙ rw k.size (omega arith)

  pub cells_are : length (cells_of s a.e) ≡ a.e
  cells_are = length_part 3 a.e (words s) (omega (arith, words_are))

  pub counts_are : length (counts_of s a.e) ≡ a.e
  counts_are = length_part (3 + a.e) a.e (words s) (omega (arith, words_are))

  -- it can be unpacked
  pub sheet_unpackable : Unpackable s a.n a.e
  sheet_unpackable = record { few = k.n_high; long = omega (arith, k.size); cells = k.cells }
