-- Both ways: an accepted sheet, written to an archive and read back, is the same bytes, and so is an accepted archive, read to a sheet and
-- written again. An archive and its sheet have N, t, P, L and each count in common. Assumes nothing.
use mathlib.Core.Path.{◌≡◌, refl, sym, ap, ◌∙◌}
use mathlib.Core.List.{List, ◌∷◌, ◌++◌}
use Prim.Native.Nat.{ℕ, suc, ◌+◌, ◌/◌, ◌%◌, ◌≤◌, ◌<◌, ◌^◌}
use native.Mathlib.Omega.{arith}
use borrow.Author.Tests.{le-ltb, eq-eqb, ltb-false}
use lib.Dec.{ltb}
use lib.ListN.{length, get_or, take, drop, length-drop, take-append-drop}
use lib.Seq.{get_or-drop}
use Rattle.fold.specs.Sum.{sum}
use Rattle.fold.proofs.Sums.{sum_term}
use Rattle.fold.proofs.Tests.{passed, handed}
use Rattle.limit.specs.Limit.{table_size, limit_of}
use Rattle.arrays.specs.Arrays.{at}
use Rattle.words.specs.Words.{words, encode}
use Rattle.words.specs.Buffer.{placed}
use Rattle.words.specs.Answer.{refused, accepted}
use Rattle.words.specs.declared.WrittenAnswer.{WrittenAnswer}
use Rattle.words.proofs.Words.{Below, below-cons, length-words, length-encode, words-encode, encode-words}
use Rattle.words.proofs.Records.{take_two}
use Rattle.words.proofs.Buffer.{after_front}
use Rattle.sheet.specs.declared.SheetAnswer.{SheetAnswer}
use Rattle.sheet.specs.Sheet.{read_sheet, cell, accepted as sheet_accepted}
use Rattle.sheet.specs.Table.{table_in}
use Rattle.sheet.specs.Write.{filled_cells, sheet_bytes}
use Rattle.sheet.proofs.Accepted.{Accepted as SheetAccepted, sheet-accepted}
use Rattle.sheet.proofs.Tables.{table-sum}
use Rattle.sheet.proofs.RoundTrip.{Writable, sheet-writable, read-written, table_in_written, written_read}
use Rattle.archive.specs.ZOrder.{position_of}
use Rattle.archive.specs.Archive.{archive_size, in_order, archive_bytes, write_answer, archive_of, archive_after, nodes_in, tolerance_in, count_in, table_from, total_in, sheet_from, read_answer, sheet_after, Keeps}
use Rattle.archive.proofs.Bits.{positions-fill}
use Rattle.archive.proofs.Ordered.{length_ordered, ordered_at, ordered_is, from_at, from_is}
use Rattle.archive.proofs.Accepted.{Accepted, archive_accepted, accepts}

-- ---- a table written to an archive

module _ (n t : ℕ) (table : List ℕ) (w : Writable n t table) where
  counts-below : Below (2 ^ 32) (in_order table table_size)
  counts-below p h =
      let f = positions-fill p (omega (arith, length_ordered table table_size)) in
      rw (← f.2)
      (omega (arith, ordered_at table f.0 f.1, sum_term table_size (at table) f.0 f.1, w.within))

  words_back : words (archive_bytes n t table) ≡ n ∷ t ∷ in_order table table_size
  unfolding archive_bytes
  words_back =
      words-encode (n ∷ t ∷ in_order table table_size)
      (below-cons (2 ^ 32) n (t ∷ in_order table table_size) (omega (arith, w.n_high))
      (below-cons (2 ^ 32) t (in_order table table_size) (omega (arith, w.t_high)) counts-below))

  nodes_back : nodes_in (archive_bytes n t table) ≡ n
  nodes_back = ap (λ (ws : List ℕ). get_or ws 0 0) words_back

  tolerance_back : tolerance_in (archive_bytes n t table) ≡ t
  tolerance_back = ap (λ (ws : List ℕ). get_or ws 1 0) words_back

  count_back : (c : ℕ) → c < table_size → count_in (archive_bytes n t table) (position_of c) ≡ at table c
  count_back c h =
      let e : 2 + position_of c ≡ suc (suc (position_of c)) = omega arith in
      ap (λ (ws : List ℕ). get_or ws (2 + position_of c) 0) words_back ∙ rw e (ordered_at table c h)

  pub table_back : table_from (archive_bytes n t table) ≡ table
  table_back = sym (from_is (archive_bytes n t table) table w.size (λ c h. sym (count_back c h)))

  -- its length is that of every archive
  pub length_back : length (archive_bytes n t table) ≡ archive_size
  unfolding archive_bytes
  length_back = length-encode (n ∷ t ∷ in_order table table_size) ∙ omega (arith, length_ordered table table_size)

  -- THEOREM. What is written is accepted when it is read.
  pub written-accepted : Accepted (archive_bytes n t table)
  written-accepted = record { size = length_back; writable = rw (nodes_back, tolerance_back, table_back) w }

  -- and the sheet that comes out is that of the table
  pub sheet_back : sheet_from (archive_bytes n t table) ≡ sheet_bytes n t table
  unfolding sheet_from
  sheet_back = rw (nodes_back, tolerance_back, table_back)

-- ---- an accepted archive

module _ (a : List ℕ) (k : Accepted a) where
  words_are : length (words a) ≡ 2 + table_size
  words_are = length-words a ∙ omega (arith, k.size)

  -- its counts are those of its table in order
  order_again : drop 2 (words a) ≡ in_order (table_from a) table_size
  order_again =
      ordered_is (table_from a) (drop 2 (words a)) (simp length-drop (omega (arith, words_are)))
      (λ c h. rw get_or-drop (sym (from_at a c h)))

  words_again : nodes_in a ∷ tolerance_in a ∷ drop 2 (words a) ≡ words a
  words_again =
      ap (λ (h : List ℕ). h ++ drop 2 (words a)) (sym (take_two (words a) (omega (arith, words_are)))) ∙ take-append-drop 2 (words a)

  -- THEOREM. The table of an accepted archive, written to an archive, is the same bytes.
  pub archive_again : Below 256 a → archive_bytes (nodes_in a) (tolerance_in a) (table_from a) ≡ a
  unfolding archive_bytes
  archive_again b =
      ap (λ (xs : List ℕ). encode (nodes_in a ∷ tolerance_in a ∷ xs)) (sym order_again)
      ∙ ap encode words_again
      ∙ encode-words a (2 + table_size) b (omega (arith, k.size))

  -- the sheet that comes out is read back
  pub restored_read : read_sheet (sheet_from a)
      ≡ sheet_accepted (nodes_in a) (tolerance_in a) (length (filled_cells (nodes_in a) (table_from a))) (total_in a)
      (limit_of (total_in a) (nodes_in a) (tolerance_in a))
  unfolding sheet_from
  restored_read = read-written (nodes_in a) (tolerance_in a) (table_from a) k.writable

  pub restored_table : table_in (sheet_from a) ≡ table_from a
  unfolding sheet_from
  restored_table = table_in_written (nodes_in a) (tolerance_in a) (table_from a) k.writable

  -- an archive and a sheet of its N, t and table have all that the sheet says in common
  pub keeps : (s : List ℕ) → (read_sheet s).refusal ≡ 0 → nodes_in a ≡ (read_sheet s).n → tolerance_in a ≡ (read_sheet s).t
      → table_from a ≡ table_in s → Keeps s a
  keeps s q nodes tolerance same =
      let facts = sheet-accepted s q in
      let total : total_in a ≡ (read_sheet s).p = ap (λ (x : List ℕ). sum table_size (at x)) same ∙ table-sum s (read_sheet s) facts in
      record {
        nodes = nodes;
        tolerance = tolerance;
        total = total;
        limit = rw (total, nodes, tolerance) (sym facts.limit_is);
        counts = λ holder subdomain h l.
            let c : cell holder subdomain < table_size = omega arith in
            let e : cell holder subdomain / 64 ≡ holder = omega arith in
            let m : cell holder subdomain % 64 ≡ subdomain = omega arith in
            rw (e, m) at (sym (from_at a (cell holder subdomain) c)) ∙ ap (λ (x : List ℕ). at x (cell holder subdomain)) same;
      }

-- ---- *write archive*, accepted

module _ (s : List ℕ) (size : ℕ) where
  pub writes : (read_sheet s).refusal ≡ 0 → archive_size ≤ size → write_answer s size ≡ accepted archive_size
  unfolding write_answer
  writes q fits = rw (eq-eqb (read_sheet s).refusal 0 q, le-ltb size archive_size fits)

  pub write_accepted : (write_answer s size).refusal ≡ 0 → ((read_sheet s).refusal ≡ 0) × (archive_size ≤ size)
  unfolding write_answer
  write_accepted q =
      let f : WrittenAnswer → ℕ = λ w. w.refusal in
      let a₁ = handed f refused (λ k. refl) (read_sheet s).refusal _ q in
      let a₂ = passed f (ltb size archive_size) (refused 56) _ (λ z. omega arith) a₁.1 in
      (a₁.0, ltb-false size archive_size a₂.0)

module _ (s : List ℕ) (q : (read_sheet s).refusal ≡ 0) where
  facts : SheetAccepted s (read_sheet s)
  facts = sheet-accepted s q

  writable : Writable (read_sheet s).n (read_sheet s).t (table_in s)
  writable = sheet-writable s (read_sheet s) facts

  length_archive : length (archive_of s) ≡ archive_size
  unfolding archive_of
  length_archive = length_back (read_sheet s).n (read_sheet s).t (table_in s) writable

  archive_fine : Accepted (archive_of s)
  unfolding archive_of
  archive_fine = written-accepted (read_sheet s).n (read_sheet s).t (table_in s) writable

  sheet_again : Below 256 s → sheet_from (archive_of s) ≡ s
  unfolding archive_of
  sheet_again b =
      sheet_back (read_sheet s).n (read_sheet s).t (table_in s) writable ∙ written_read s (read_sheet s) facts b

  archive_keeps : Keeps s (archive_of s)
  archive_keeps = keeps (archive_of s) archive_fine s q nodes tolerance table
    where
      nodes : nodes_in (archive_of s) ≡ (read_sheet s).n
      nodes = unfold archive_of in nodes_back (read_sheet s).n (read_sheet s).t (table_in s) writable

      tolerance : tolerance_in (archive_of s) ≡ (read_sheet s).t
      tolerance = unfold archive_of in tolerance_back (read_sheet s).n (read_sheet s).t (table_in s) writable

      table : table_from (archive_of s) ≡ table_in s
      table = unfold archive_of in table_back (read_sheet s).n (read_sheet s).t (table_in s) writable

-- the bytes in front of the buffer, of the length given
archive_front : (s out : List ℕ) → (write_answer s (length out)).refusal ≡ 0
    → take (write_answer s (length out)).bytes (archive_after s out) ≡ archive_of s
archive_front s out q =
    let k = write_accepted s (length out) q in
    let size = ap (λ (w : WrittenAnswer). w.bytes) (writes s (length out) k.0 k.1) ∙ sym (length_archive s k.0) in
    rw size (after_front _ (archive_of s) out q)

sheet-front : (a out : List ℕ) → (read_answer a (length out)).refusal ≡ 0
    → take (read_answer a (length out)).bytes (sheet_after a out) ≡ sheet_from a
sheet-front a out q =
    let k = archive_accepted a (length out) q in
    let size = ap (λ (w : WrittenAnswer). w.bytes) (accepts a (length out) k.0 k.1) in
    rw size (after_front _ (sheet_from a) out q)

-- ---- over bytes

-- THEOREM. What was written to an archive keeps what the sheet says.
pub archive_read_back : (s archive : List ℕ) → (write_answer s (length archive)).refusal ≡ 0
    → Keeps s (take (write_answer s (length archive)).bytes (archive_after s archive))
archive_read_back s archive q =
    rw (archive_front s archive q) (archive_keeps s (write_accepted s (length archive) q).0)

-- THEOREM. And so does the sheet that was read from an archive, which is accepted.
pub sheet-read_back : (a out : List ℕ) → (read_answer a (length out)).refusal ≡ 0
    → let s = take (read_answer a (length out)).bytes (sheet_after a out) in
    ((read_sheet s).refusal ≡ 0) × Keeps s a
sheet-read_back a out q =
    let k = (archive_accepted a (length out) q).0 in
    let r = restored_read a k in
    let fine : (read_sheet (sheet_from a)).refusal ≡ 0 = ap (λ (x : SheetAnswer). x.refusal) r in
    rw (sheet-front a out q) (
      fine,
      keeps a k (sheet_from a) fine (sym (ap (λ (x : SheetAnswer). x.n) r)) (sym (ap (λ (x : SheetAnswer). x.t) r))
          (sym (restored_table a k)),
    )

-- THEOREM. "Going to the archive and back must give the same sheet": an accepted sheet, written to an archive, is accepted there and read
-- back as the same bytes.
pub sheet-to_archive_and_back : (s : List ℕ) → Below 256 s → (archive out : List ℕ) → (write_answer s (length archive)).refusal ≡ 0
    → length s ≤ length out
    → let a = take (write_answer s (length archive)).bytes (archive_after s archive) in
    (read_answer a (length out) ≡ accepted (length s)) × (sheet_after a out ≡ placed s out)
sheet-to_archive_and_back s b archive out q fits =
    let k = (write_accepted s (length archive) q).0 in
    let same = sheet_again s k b in
    let read : read_answer (archive_of s) (length out) ≡ accepted (length s) =
    accepts (archive_of s) (length out) (archive_fine s k) (rw same fits) ∙ ap (λ (x : List ℕ). accepted (length x)) same in
    rw (archive_front s archive q) (read, rw (read, same))

-- THEOREM. "and an accepted archive must come back the same too": read to a sheet, which is accepted, and written to an archive again, it
-- is the same bytes.
pub archive_to-sheet-and_back : (a : List ℕ) → Below 256 a → (out archive : List ℕ) → (read_answer a (length out)).refusal ≡ 0
    → archive_size ≤ length archive
    → let s = take (read_answer a (length out)).bytes (sheet_after a out) in
    (write_answer s (length archive) ≡ accepted archive_size) × (archive_after s archive ≡ placed a archive)
archive_to-sheet-and_back a b out archive q fits =
    let k = (archive_accepted a (length out) q).0 in
    let r = restored_read a k in
    let fine : (read_sheet (sheet_from a)).refusal ≡ 0 = ap (λ (x : SheetAnswer). x.refusal) r in
    let written = writes (sheet_from a) (length archive) fine fits in
    rw (sheet-front a out q) (written, rw (written, of_sheet a k b))
  where
    of_sheet : (a : List ℕ) → Accepted a → Below 256 a → archive_of (sheet_from a) ≡ a
    of_sheet a k b =
        let r = restored_read a k in
        unfold archive_of in
        rw (ap (λ (x : SheetAnswer). x.n) r, ap (λ (x : SheetAnswer). x.t) r, restored_table a k) (archive_again a k b)
