-- Demand 2 of weighing: no least is above its total, so each is a word, and the words in front of the buffer are the leasts. Assumes
-- nothing.
use mathlib.Core.Path.{◌≡◌, refl, sym, ap, ◌∙◌}
use mathlib.Core.List.{List, [], ◌∷◌, ◌++◌}
use Prim.Native.Nat.{ℕ, ◌≤◌, ◌<◌, ◌^◌}
use native.Mathlib.Omega.{arith}
use borrow.Author.Tests.{eq-eqb}
use lib.ListN.{length, get_or, drop}
use lib.Seq.{get_or-take}
use Rattle.fold.specs.Collect.{collect}
use Rattle.fold.proofs.Tests.{handed}
use Rattle.limit.specs.Limit.{max_total}
use Rattle.words.specs.Words.{encode}
use Rattle.words.proofs.Words.{Below, length-encode, word-front, words-encode}
use Rattle.arrays.specs.Arrays.{at, tabulate}
use Rattle.arrays.proofs.Tabulate.{length-row, tabulate-at, take-tabulate}
use Rattle.sheet.specs.Sheet.{read_sheet}
use Rattle.sheet.specs.Table.{table_in}
use Rattle.sheet.specs.Totals.{total_of, totals_in}
use Rattle.plan.specs.Plan.{helpands_of}
use Rattle.sheet.proofs.Accepted.{sheet-accepted}
use Rattle.sheet.proofs.Tables.{table-within}
use Rattle.sheet.proofs.Totalled.{total-le}
use Rattle.tree.proofs.Weighing.{least-most}
use Rattle.weigh.specs.declared.WeighAnswer.{WeighAnswer}
use Rattle.weigh.specs.Checks.{checked}
use Rattle.weigh.specs.Weigh.{refused, least_in, least_bytes, weigh_answer, weigh_bytes, LeastsReadBack}
use Rattle.weigh.proofs.Checks.{passes}

module _ (s p : List ℕ) (z : (read_sheet s).refusal ≡ 0) where
  abbrev n₀ : ℕ
  n₀ = (read_sheet s).n

  abbrev leasts : List ℕ
  leasts = collect n₀ (λ k. least_in s p k ∷ [])

  least_at : (k : ℕ) → k < n₀ → get_or leasts k 0 ≡ least_in s p k
  least_at k l =
      let f = least_in s p in
      sym (ap (λ (xs : List ℕ). get_or xs k 0) (take-tabulate n₀ f)) ∙ get_or-take n₀ (tabulate n₀ f) k 0 l ∙ tabulate-at n₀ f k l

  least-small : (k : ℕ) → k < n₀ → least_in s p k ≤ max_total
  least-small k l =
      let a = sheet-accepted s z in
      let t = total_of n₀ (table_in s) in
      let high = total-le (table_in s) n₀ k a.n_high (omega (arith, a.n_high)) in
      let total : at (totals_in s) k ≤ max_total = omega (arith, tabulate-at n₀ t k l, high, table-within s (read_sheet s) a) in
      omega (arith, least-most n₀ (at (helpands_of p n₀)) (at (totals_in s)) (read_sheet s).limit k)

  leasts_fit : Below (2 ^ 32) leasts
  leasts_fit k l = let b : k < n₀ = omega (arith, length-row (least_in s p) n₀) in omega (arith, least_at k b, least-small k b)

  read-front : (rest : List ℕ) → LeastsReadBack s p (least_bytes s p ++ rest)
  unfolding least_bytes
  read-front rest =
      record {
        leasts = λ k l.
            word-front (encode leasts) rest k (omega (arith, length-encode leasts, length-row (least_in s p) n₀))
            ∙ ap (λ (ws : List ℕ). get_or ws k 0) (words-encode leasts leasts_fit)
            ∙ least_at k l;
      }

-- THEOREM. After an accepted call the N words in front of the buffer are the leasts.
pub leasts-read_back : (s p out : List ℕ) → (weigh_answer s p (length out)).refusal ≡ 0 → LeastsReadBack s p (weigh_bytes s p out)
unfolding weigh_answer
leasts-read_back s p out q =
    let z = (handed (λ (a : WeighAnswer). a.refusal) refused (λ k. refl) (checked s p) _ q).0 in
    rw (eq-eqb _ 0 q) (read-front s p (passes s p z).sheet (drop (length (least_bytes s p)) out))
