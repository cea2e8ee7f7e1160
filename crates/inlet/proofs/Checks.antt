-- What joining needs of two sheets that were accepted, and one law for each way out: the answer, and the buffer as it is then.
-- Assumes nothing.
use mathlib.Core.Path.{◌≡◌, ap, ◌∙◌}
use mathlib.Core.Logic.{◌≢◌}
use mathlib.Core.Bool.{and-false}
use mathlib.Core.List.{List}
use Prim.Native.Nat.{ℕ, ◌+◌, ◌≤◌, ◌<◌}
use native.Mathlib.Omega.{arith}
use borrow.Author.Tests.{lt-ltb, le-ltb, eq-eqb, ne_eqb}
use lib.Dec.{ltb}
use lib.ListN.{length}
use Rattle.fold.proofs.Sums.{sum_term}
use Rattle.limit.specs.Limit.{max_total, table_size}
use Rattle.arrays.specs.Arrays.{at}
use Rattle.words.specs.Checks.{refuse_if}
use Rattle.words.specs.Buffer.{written, writing, too_short}
use Rattle.words.specs.Answer.{refused, accepted}
use Rattle.words.specs.declared.WrittenAnswer.{WrittenAnswer}
use Rattle.words.proofs.Writing.{Ends, ends_refused, ends_written, ends_short}
use Rattle.sheet.specs.declared.Sheet.{Sheet}
use Rattle.sheet.specs.declared.SheetAnswer.{SheetAnswer}
use Rattle.sheet.specs.Sheet.{read_sheet, accepted as sheet_accepted}
use Rattle.sheet.specs.Table.{table_of}
use Rattle.sheet.specs.Write.{sheet_bytes}
use Rattle.sheet.proofs.Accepted.{Accepted, reading_accepted, sheet_unpackable}
use Rattle.sheet.proofs.Tables.{length-table, table-sum}
use Rattle.inlet.specs.Join.{sum_of, joined_table, joined_sheet, join_answer}
use Rattle.inlet.specs.Inner.{Addable, SheetsRead}
use Rattle.std.specs.Prelude.{Err, Ok}

-- ---- what the inner functions ask

module _ {f s : List ℕ} {a b : Sheet} (r : SheetsRead f s a b) where
  pub first_facts : Accepted f (sheet_accepted a.n a.t a.e a.p a.limit)
  first_facts = reading_accepted f a r.first

  pub second_facts : Accepted s (sheet_accepted b.n b.t b.e b.p b.limit)
  second_facts = reading_accepted s b r.second

  -- the first sheet's table, as it is unpacked
  module _ {table : List ℕ} (is : table ≡ table_of f a.e) where
    pub addable : a.p + b.p ≤ max_total → Addable table s b.n b.e
    addable within =
        rw is
        (record {
          size = length-table f a.e;
          entries = sheet_unpackable s (sheet_accepted b.n b.t b.e b.p b.limit) second_facts;
          room = λ c l. omega (
            arith,
            sum_term table_size (at (table_of f a.e)) c l,
            sum_term table_size (at (table_of s b.e)) c l,
            table-sum f (sheet_accepted a.n a.t a.e a.p a.limit) first_facts,
            table-sum s (sheet_accepted b.n b.t b.e b.p b.limit) second_facts,
          );
        })

    pub joined_is : sum_of table (table_of s b.e) ≡ joined_table f s
    joined_is = rw (is, ← r.first, ← r.second)

-- ---- the ways out

module _ (f s out : List ℕ) where
  -- what was answered, and the buffer as it is then
  abbrev pub JoinEnds : WrittenAnswer → List ℕ → Type 0
  JoinEnds a out₁ = Ends (join_answer f s (length out)) (joined_sheet f s) out a out₁

  refuses : (k : ℕ) → k ≢ 0 → refused k ≡ join_answer f s (length out) → JoinEnds (refused k) out
  refuses = ends_refused (join_answer f s (length out)) (joined_sheet f s) out

  pub ends_first : (k : ℕ) → k ≡ (read_sheet f).refusal → k ≢ 0 → JoinEnds (refused k) out
  unfolding join_answer
  ends_first k e d = refuses k d (rw (← e, ne_eqb k 0 d))

  pub ends_second : 0 ≡ (read_sheet f).refusal → (k : ℕ) → k ≡ (read_sheet s).refusal → k ≢ 0 → JoinEnds (refused k) out
  unfolding join_answer
  ends_second z k e d = refuses k d (rw (← z, ← e, ne_eqb k 0 d))

-- both sheets were read
module _ {f s : List ℕ} {a b : Sheet} (r : SheetsRead f s a b) (out : List ℕ) where
  pub ends_nodes : a.n ≢ b.n → JoinEnds f s out (refused 51) out
  unfolding join_answer
  ends_nodes d = refuses f s out 51 (λ z. omega arith) (rw (← r.first, ← r.second, ne_eqb a.n b.n d))

  pub ends_tolerance : a.t ≢ b.t → JoinEnds f s out (refused 51) out
  unfolding join_answer
  ends_tolerance d = refuses f s out 51 (λ z. omega arith) (rw (← r.first, ← r.second, ne_eqb a.t b.t d, and-false))

  module _ (nodes : a.n ≡ b.n) (tolerance : a.t ≡ b.t) where
    pub ends_total : max_total < a.p + b.p → JoinEnds f s out (refused 7) out
    unfolding join_answer
    ends_total over =
        refuses f s out 7 (λ z. omega arith)
        (rw (
          ← r.first,
          ← r.second,
          eq-eqb a.n b.n nodes,
          eq-eqb a.t b.t tolerance,
          lt-ltb max_total (a.p + b.p) over,
        ))

    -- past 7: the sum of the tables was handed to the writer
    module _ (within : a.p + b.p ≤ max_total) {table : List ℕ} (is : table ≡ joined_table f s) where
      abbrev rec : List ℕ
      rec = sheet_bytes a.n a.t table

      sheet-is : rec ≡ joined_sheet f s
      unfolding joined_sheet
      sheet-is = ap (sheet_bytes a.n a.t) is ∙ ap (λ (x : SheetAnswer). sheet_bytes x.n x.t (joined_table f s)) r.first

      last : join_answer f s (length out)
          ≡ refuse_if (ltb (length out) (length (joined_sheet f s))) (refused 52) (accepted (length (joined_sheet f s)))
      unfolding join_answer
      last =
          rw (
            ← r.first,
            ← r.second,
            eq-eqb a.n b.n nodes,
            eq-eqb a.t b.t tolerance,
            le-ltb max_total (a.p + b.p) within,
          )

      pub ends_joined : (size : ℕ) → Ok size ≡ writing rec out → JoinEnds f s out (accepted size) (written rec out)
      ends_joined = ends_written (join_answer f s (length out)) (joined_sheet f s) out 52 last sheet-is

      pub ends_unwritten : Err too_short ≡ writing rec out → JoinEnds f s out (refused 52) (written rec out)
      ends_unwritten = ends_short (join_answer f s (length out)) (joined_sheet f s) out 52 last sheet-is (λ z. omega arith)
