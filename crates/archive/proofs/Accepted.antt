-- What is known of an archive that was accepted, its table among it; and which archives are. Assumes nothing.
use mathlib.Core.Path.{◌≡◌, refl, ◌∙◌}
use mathlib.Core.Logic.{◌⊎◌, inl, inr}
use mathlib.Core.Bool.{true, false, not, ◌||◌}
use mathlib.Core.List.{List}
use Prim.Native.Nat.{ℕ, ◌≤◌}
use native.Mathlib.Decide.{dec_lt}
use native.Mathlib.Omega.{arith}
use borrow.Author.Tests.{ltb-false, le-ltb, eqb-true, eq-eqb, not-false}
use lib.Dec.{eqb, ltb}
use lib.ListN.{length, get_or-eq_default}
use Rattle.fold.proofs.Tests.{passed, either, all-at, all_of}
use Rattle.limit.specs.Limit.{max_nodes, max_tolerance, max_total, table_size, one_to}
use Rattle.limit.proofs.Laws.{one-to-is}
use Rattle.arrays.specs.Arrays.{at}
use Rattle.words.specs.declared.WrittenAnswer.{WrittenAnswer}
use Rattle.words.specs.Answer.{refused, accepted}
use Rattle.sheet.specs.Sheet.{cell_fine}
use Rattle.sheet.proofs.RoundTrip.{Writable}
use Rattle.archive.specs.Archive.{archive_size, nodes_in, tolerance_in, table_from, total_in, counts_fine, sheet_from, counts_answer, read_answer}
use Rattle.archive.specs.Inner.{HeadRead}
use Rattle.archive.proofs.Ordered.{length_from}
use Rattle.archive.proofs.Checks.{head-passes}

-- ---- 55's test of a table, as a sheet's writer asks it

-- counts stand at nodes below n alone
abbrev Inside : ℕ → List ℕ → Type 0
Inside n table = (c : ℕ) → cell_fine n c ≡ false → at table c ≡ 0

module _ (n : ℕ) (table : List ℕ) (size : length table ≡ table_size) where
  pub fine_inside : counts_fine n table ≡ true → Inside n table
  fine_inside fine c outside = elim (dec_lt c table_size) [
    | yes l ↦ eqb-true (at table c) 0 (rw outside at (all-at table_size (λ c. cell_fine n c || eqb (at table c) 0) fine c l))
    | no d ↦ get_or-eq_default table 0 (omega arith)
  ]

  pub inside_fine : Inside n table → counts_fine n table ≡ true
  inside_fine inside = all_of table_size (λ c. cell_fine n c || eqb (at table c) 0) (λ c l. each c (either (cell_fine n c)))
    where
      each : (c : ℕ) → (cell_fine n c ≡ true) ⊎ (cell_fine n c ≡ false) → (cell_fine n c || eqb (at table c) 0) ≡ true
      each c (inl e) = rw e
      each c (inr e) = rw (e, eq-eqb (at table c) 0 (inside c e))

-- ---- the checks before 56

pub record Accepted (a : List ℕ) : Type 0 where
  pub size : length a ≡ archive_size
  pub writable : Writable (nodes_in a) (tolerance_in a) (table_from a)

module _ (a : List ℕ) (size : ℕ) where
  pub archive_accepted : (read_answer a size).refusal ≡ 0 → Accepted a × (length (sheet_from a) ≤ size)
  unfolding read_answer counts_answer
  archive_accepted q =
      let f : WrittenAnswer → ℕ = λ w. w.refusal in
      let a₁ = passed f (not (eqb (length a) archive_size)) (refused 54) _ (λ z. omega arith) q in
      let a₂ = passed f (not (one_to max_nodes (nodes_in a))) (refused 2) _ (λ z. omega arith) a₁.1 in
      let a₃ = passed f (not (one_to max_tolerance (tolerance_in a))) (refused 3) _ (λ z. omega arith) a₂.1 in
      let a₄ = passed f (not (counts_fine (nodes_in a) (table_from a))) (refused 55) _ (λ z. omega arith) a₃.1 in
      let a₅ = passed f (ltb max_total (total_in a)) (refused 55) _ (λ z. omega arith) a₄.1 in
      let a₆ = passed f (ltb size (length (sheet_from a))) (refused 56) _ (λ z. omega arith) a₅.1 in
      let nodes = one-to-is max_nodes (nodes_in a) (not-false _ a₂.0) in
      let tolerance = one-to-is max_tolerance (tolerance_in a) (not-false _ a₃.0) in (
        record {
          size = eqb-true (length a) archive_size (not-false _ a₁.0);
          writable = record {
            n_low = nodes.0;
            n_high = nodes.1;
            t_low = tolerance.0;
            t_high = tolerance.1;
            size = length_from a;
            outside = fine_inside (nodes_in a) (table_from a) (length_from a) (not-false _ a₄.0);
            within = ltb-false max_total (total_in a) a₅.0;
          };
        },
        ltb-false size (length (sheet_from a)) a₆.0,
      )

  -- and conversely: with a buffer that is long enough the sheet is written
  pub accepts : Accepted a → length (sheet_from a) ≤ size → read_answer a size ≡ accepted (length (sheet_from a))
  unfolding counts_answer
  accepts k fits =
      let w = k.writable in
      let h : HeadRead a (nodes_in a) (tolerance_in a) =
      record {
        size = k.size;
        n_is = refl;
        t_is = refl;
        n_low = w.n_low;
        n_high = w.n_high;
        t_low = w.t_low;
        t_high = w.t_high;
      } in
      head-passes a size h
      ∙ rw (
        inside_fine (nodes_in a) (table_from a) (length_from a) w.outside,
        le-ltb max_total (total_in a) w.within,
        le-ltb size (length (sheet_from a)) fits,
      )
