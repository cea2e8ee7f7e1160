-- What *join sheets* accepted, taken apart, and the joined sheet read again: its table can be written, since both sheets' tables can and
-- their totals are within the bound together, and what can be written is read back. Assumes nothing.
use mathlib.Core.Path.{◌≡◌, refl, sym, ap, ◌∙◌}
use mathlib.Core.Bool.{true, not}
use mathlib.Core.List.{List}
use Prim.Native.Nat.{ℕ, ◌+◌, ◌≤◌}
use native.Mathlib.Omega.{arith}
use borrow.Author.Tests.{ltb-false, le-ltb, eqb-true, eq-eqb, not-false}
use lib.Dec.{ltb, eqb}
use lib.ListN.{length, take}
use Rattle.fold.specs.Sum.{sum}
use Rattle.fold.proofs.Sums.{sum-eq, sum-add}
use Rattle.fold.proofs.Tests.{passed, handed, and_left, and_right}
use Rattle.limit.specs.Limit.{max_total, table_size, limit_of}
use Rattle.arrays.specs.Arrays.{at}
use Rattle.words.specs.declared.WrittenAnswer.{WrittenAnswer}
use Rattle.words.specs.Answer.{refused, accepted}
use Rattle.words.proofs.Buffer.{after_front}
use Rattle.sheet.specs.Sheet.{read_sheet, cell, cell_fine, accepted as sheet_accepted}
use Rattle.sheet.specs.Table.{table_in, held}
use Rattle.sheet.specs.Totals.{total_of}
use Rattle.sheet.specs.Write.{filled_cells}
use Rattle.sheet.proofs.Accepted.{Accepted, sheet-accepted}
use Rattle.sheet.proofs.Tables.{length-table, table-outside, table-sum}
use Rattle.sheet.proofs.RoundTrip.{Writable, read-written, table_in_written}
use Rattle.inlet.specs.Join.{joined_table, alike, joint_total, joined_sheet, join_answer, joined_after, JoinReadBack}
use Rattle.inlet.proofs.Tables.{length-added, added-at, added-total}

-- ---- accepted: every check passed, so each says its part

-- the checks before 52
pub record Joinable (f s : List ℕ) : Type 0 where
  pub first : (read_sheet f).refusal ≡ 0
  pub second : (read_sheet s).refusal ≡ 0
  pub nodes : (read_sheet f).n ≡ (read_sheet s).n
  pub tolerance : (read_sheet f).t ≡ (read_sheet s).t
  pub within : joint_total f s ≤ max_total

module _ (f s : List ℕ) (size : ℕ) where
  pub joined : (join_answer f s size).refusal ≡ 0 → Joinable f s × (length (joined_sheet f s) ≤ size)
  unfolding join_answer
  joined q =
      let g : WrittenAnswer → ℕ = λ a. a.refusal in
      let n = eqb (read_sheet f).n (read_sheet s).n in
      let t = eqb (read_sheet f).t (read_sheet s).t in
      let a₁ = handed g refused (λ k. refl) (read_sheet f).refusal _ q in
      let a₂ = handed g refused (λ k. refl) (read_sheet s).refusal _ a₁.1 in
      let a₃ = passed g (not (alike f s)) (refused 51) _ (λ z. omega arith) a₂.1 in
      let a₄ = passed g (ltb max_total (joint_total f s)) (refused 7) _ (λ z. omega arith) a₃.1 in
      let a₅ = passed g (ltb size (length (joined_sheet f s))) (refused 52) _ (λ z. omega arith) a₄.1 in
      let same = not-false _ a₃.0 in (
        record {
          first = a₁.0;
          second = a₂.0;
          nodes = eqb-true (read_sheet f).n (read_sheet s).n (and_left n t same);
          tolerance = eqb-true (read_sheet f).t (read_sheet s).t (and_right n t same);
          within = ltb-false max_total (joint_total f s) a₄.0;
        },
        ltb-false size (length (joined_sheet f s)) a₅.0,
      )

  -- and conversely
  pub joins : Joinable f s → length (joined_sheet f s) ≤ size → join_answer f s size ≡ accepted (length (joined_sheet f s))
  unfolding join_answer
  joins d fits =
      let a : eqb (read_sheet f).refusal 0 ≡ true = eq-eqb (read_sheet f).refusal 0 d.first in
      let b : eqb (read_sheet s).refusal 0 ≡ true = eq-eqb (read_sheet s).refusal 0 d.second in
      let n : eqb (read_sheet f).n (read_sheet s).n ≡ true = eq-eqb (read_sheet f).n (read_sheet s).n d.nodes in
      let t : eqb (read_sheet f).t (read_sheet s).t ≡ true = eq-eqb (read_sheet f).t (read_sheet s).t d.tolerance in
      rw (a, b, n, t, le-ltb max_total (joint_total f s) d.within, le-ltb size (length (joined_sheet f s)) fits)

-- ---- the joined table

module _ {f s : List ℕ} (d : Joinable f s) where
  abbrev n₀ : ℕ
  n₀ = (read_sheet f).n

  abbrev t₀ : ℕ
  t₀ = (read_sheet f).t

  abbrev entries : ℕ
  entries = length (filled_cells n₀ (joined_table f s))

  first_facts : Accepted f (read_sheet f)
  first_facts = sheet-accepted f d.first

  second_facts : Accepted s (read_sheet s)
  second_facts = sheet-accepted s d.second

  first-length : length (table_in f) ≡ table_size
  first-length = length-table f (read_sheet f).e

  second-length : length (table_in s) ≡ table_size
  second-length = length-table s (read_sheet s).e

  pub cell_joined : (c : ℕ) → at (joined_table f s) c ≡ at (table_in f) c + at (table_in s) c
  cell_joined = added-at (table_in f) (table_in s) first-length second-length

  -- no particle is lost and none is counted twice
  pub joined_sum : sum table_size (at (joined_table f s)) ≡ joint_total f s
  joined_sum =
      omega (
        arith,
        added-total (table_in f) (table_in s) first-length second-length,
        table-sum f (read_sheet f) first_facts,
        table-sum s (read_sheet s) second_facts,
      )

  pub joined_writable : Writable n₀ t₀ (joined_table f s)
  joined_writable =
      record {
        n_low = first_facts.n_low;
        n_high = first_facts.n_high;
        t_low = first_facts.t_low;
        t_high = first_facts.t_high;
        size = length-added (table_in f) (table_in s) first-length second-length;
        outside = λ c e. omega (
          arith,
          cell_joined c,
          table-outside f (read_sheet f) first_facts c e,
          table-outside s (read_sheet s) second_facts c (ap (λ (n : ℕ). cell_fine n c) (sym d.nodes) ∙ e),
        );
        within = omega (arith, joined_sum, d.within);
      }

  joined_read : read_sheet (joined_sheet f s) ≡ sheet_accepted n₀ t₀ entries (joint_total f s) (limit_of (joint_total f s) n₀ t₀)
  unfolding joined_sheet
  joined_read =
      read-written n₀ t₀ (joined_table f s) joined_writable
      ∙ ap (λ (p : ℕ). sheet_accepted n₀ t₀ entries p (limit_of p n₀ t₀)) joined_sum

  pub table_joined : table_in (joined_sheet f s) ≡ joined_table f s
  unfolding joined_sheet
  table_joined = table_in_written n₀ t₀ (joined_table f s) joined_writable

  pub joined_back : JoinReadBack f s (joined_sheet f s)
  joined_back =
      record {
        read = joined_read;
        cells = λ holder subdomain. rw table_joined (cell_joined (cell holder subdomain));
      }

-- ---- the front of the buffer is the joined sheet

pub joined_front : (f s out : List ℕ) → (join_answer f s (length out)).refusal ≡ 0
    → take (join_answer f s (length out)).bytes (joined_after f s out) ≡ joined_sheet f s
joined_front f s out q =
    let d = joined f s (length out) q in
    let size = ap (λ (a : WrittenAnswer). a.bytes) (joins f s (length out) d.0 d.1) in
    rw size (after_front _ (joined_sheet f s) out q)

-- THEOREM. After an accepted call the bytes in front of the buffer, of the length given, are read back as what was joined.
pub join-read_back : (f s out : List ℕ) → (join_answer f s (length out)).refusal ≡ 0
    → JoinReadBack f s (take (join_answer f s (length out)).bytes (joined_after f s out))
join-read_back f s out q = rw (joined_front f s out q) (joined_back (joined f s (length out) q).0)

-- THEOREM. Each subdomain's total on the joined sheet is the sum of its totals on the two.
pub totals_joined : (f s joint : List ℕ) → JoinReadBack f s joint → (nodes n : ℕ)
    → total_of nodes (table_in joint) n ≡ total_of nodes (table_in f) n + total_of nodes (table_in s) n
totals_joined f s joint r nodes n =
    sum-eq nodes (λ k. held (table_in joint) k n) (λ k. held (table_in f) k n + held (table_in s) k n) (λ k l. r.cells k n)
    ∙ sum-add nodes (λ k. held (table_in f) k n) (λ k. held (table_in s) k n)
