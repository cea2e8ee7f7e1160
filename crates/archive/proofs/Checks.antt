-- One law for each way out of *write archive* and of *read archive*: the answer, and the buffer as it is then. Assumes nothing.
use mathlib.Core.Path.{◌≡◌, sym, ap, ◌∙◌}
use mathlib.Core.Logic.{◌≢◌}
use mathlib.Core.Bool.{true, false}
use mathlib.Core.List.{List}
use Prim.Native.Nat.{ℕ, ◌≤◌, ◌<◌}
use native.Mathlib.Omega.{arith}
use borrow.Author.Tests.{lt-ltb, le-ltb, eq-eqb, ne_eqb}
use lib.Dec.{ltb}
use lib.ListN.{length}
use Rattle.limit.specs.Limit.{max_nodes, max_tolerance, max_total, one_to}
use Rattle.limit.proofs.Laws.{one-to_of}
use Rattle.words.specs.Checks.{refuse_if}
use Rattle.words.specs.Buffer.{placed, written, writing, too_short}
use Rattle.words.specs.Answer.{refused, accepted}
use Rattle.words.specs.declared.WrittenAnswer.{WrittenAnswer}
use Rattle.words.proofs.Writing.{Ends, ends_refused, ends_written, ends_short}
use Rattle.sheet.specs.declared.Sheet.{Sheet}
use Rattle.sheet.specs.declared.SheetAnswer.{SheetAnswer}
use Rattle.sheet.specs.Sheet.{read_sheet, accepted as sheet_accepted}
use Rattle.sheet.specs.Table.{table_of}
use Rattle.sheet.specs.Write.{sheet_bytes}
use Rattle.archive.specs.Archive.{archive_size, archive_bytes, write_answer, archive_of, nodes_in, tolerance_in, table_from, total_in, counts_fine, sheet_from, counts_answer, read_answer}
use Rattle.archive.specs.Inner.{HeadRead}
use Rattle.std.specs.Prelude.{Err, Ok}

-- ---- *write archive*

module _ (s out : List ℕ) where
  abbrev pub WriteEnds : WrittenAnswer → List ℕ → Type 0
  WriteEnds a out₁ = Ends (write_answer s (length out)) (archive_of s) out a out₁

  pub ends_sheet : (k : ℕ) → k ≡ (read_sheet s).refusal → k ≢ 0 → WriteEnds (refused k) out
  unfolding write_answer
  ends_sheet k e d = ends_refused (write_answer s (length out)) (archive_of s) out k d (rw (← e, ne_eqb k 0 d))

  -- the sheet was read
  module _ {h : Sheet} (read : sheet_accepted h.n h.t h.e h.p h.limit ≡ read_sheet s) where
    pub ends_buffer : length out < archive_size → WriteEnds (refused 56) out
    unfolding write_answer
    ends_buffer short =
        ends_refused (write_answer s (length out)) (archive_of s) out 56 (λ z. omega arith)
        (rw (← read, lt-ltb (length out) archive_size short))

    pub ends_archived : archive_size ≤ length out → {out₁ : List ℕ} → out₁ ≡ placed (archive_bytes h.n h.t (table_of s h.e)) out
        → WriteEnds (accepted archive_size) out₁
    unfolding write_answer archive_of
    ends_archived fits is =
        let a : accepted archive_size ≡ write_answer s (length out) = rw (← read, le-ltb (length out) archive_size fits) in
        (a, is ∙ rw (← a) (ap (λ (x : SheetAnswer). placed (archive_bytes x.n x.t (table_of s x.e)) out) read))

-- ---- *read archive*

-- past 54, 2 and 3 the counts decide
pub head-passes : (a : List ℕ) (size : ℕ) {n t : ℕ} → HeadRead a n t → read_answer a size ≡ counts_answer a size
unfolding read_answer
head-passes a size h =
    rw (
      eq-eqb (length a) archive_size h.size,
      ap (one_to max_nodes) (sym h.n_is) ∙ one-to_of max_nodes _ h.n_low h.n_high,
      ap (one_to max_tolerance) (sym h.t_is) ∙ one-to_of max_tolerance _ h.t_low h.t_high,
    )

module _ (a out : List ℕ) where
  -- from 55 on
  abbrev pub CountsEnd : WrittenAnswer → List ℕ → Type 0
  CountsEnd w out₁ = Ends (counts_answer a (length out)) (sheet_from a) out w out₁

  abbrev pub ReadEnds : WrittenAnswer → List ℕ → Type 0
  ReadEnds w out₁ = Ends (read_answer a (length out)) (sheet_from a) out w out₁

  refuses : (k : ℕ) → k ≢ 0 → refused k ≡ read_answer a (length out) → ReadEnds (refused k) out
  refuses = ends_refused (read_answer a (length out)) (sheet_from a) out

  pub ends_length : length a ≢ archive_size → ReadEnds (refused 54) out
  unfolding read_answer
  ends_length d = refuses 54 (λ z. omega arith) (rw (ne_eqb (length a) archive_size d))

  module _ (size : length a ≡ archive_size) where
    pub ends_nodes : one_to max_nodes (nodes_in a) ≡ false → ReadEnds (refused 2) out
    unfolding read_answer
    ends_nodes bad = refuses 2 (λ z. omega arith) (rw (eq-eqb (length a) archive_size size, bad))

    pub ends_tolerance : one_to max_nodes (nodes_in a) ≡ true → one_to max_tolerance (tolerance_in a) ≡ false → ReadEnds (refused 3) out
    unfolding read_answer
    ends_tolerance nodes bad = refuses 3 (λ z. omega arith) (rw (eq-eqb (length a) archive_size size, nodes, bad))

  counts_refuse : (k : ℕ) → k ≢ 0 → refused k ≡ counts_answer a (length out) → CountsEnd (refused k) out
  counts_refuse = ends_refused (counts_answer a (length out)) (sheet_from a) out

  -- N, t and the table as they were read
  module _ {n t : ℕ} (h : HeadRead a n t) {table : List ℕ} (is : table ≡ table_from a) where
    fine_is : counts_fine n table ≡ counts_fine (nodes_in a) (table_from a)
    fine_is = rw (is, h.n_is)

    pub ends_other-nodes : counts_fine n table ≡ false → CountsEnd (refused 55) out
    unfolding counts_answer
    ends_other-nodes bad = counts_refuse 55 (λ z. omega arith) (rw (sym fine_is ∙ bad))

    module _ (fine : counts_fine n table ≡ true) {sum₀ : ℕ} (sum_is_lem : sum₀ ≡ total_in a) where
      pub ends_total : max_total < sum₀ → CountsEnd (refused 55) out
      unfolding counts_answer
      ends_total over =
          counts_refuse 55 (λ z. omega arith) (rw (sym fine_is ∙ fine, lt-ltb max_total (total_in a) (omega (arith, sum_is_lem))))

      module _ (within : sum₀ ≤ max_total) where
        abbrev rec : List ℕ
        rec = sheet_bytes n t table

        sheet-is : rec ≡ sheet_from a
        unfolding sheet_from
        sheet-is = rw (is, h.n_is, h.t_is)

        last : counts_answer a (length out)
            ≡ refuse_if (ltb (length out) (length (sheet_from a))) (refused 56) (accepted (length (sheet_from a)))
        unfolding counts_answer
        last = rw (sym fine_is ∙ fine, le-ltb max_total (total_in a) (omega (arith, sum_is_lem)))

        pub ends_restored : (size : ℕ) → Ok size ≡ writing rec out → CountsEnd (accepted size) (written rec out)
        ends_restored = ends_written (counts_answer a (length out)) (sheet_from a) out 56 last sheet-is

        pub ends_unwritten : Err too_short ≡ writing rec out → CountsEnd (refused 56) (written rec out)
        ends_unwritten = ends_short (counts_answer a (length out)) (sheet_from a) out 56 last sheet-is (λ z. omega arith)
