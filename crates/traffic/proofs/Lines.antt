-- The lines of the page: each has 25 bytes, whatever its numbers. Assumes nothing.
use mathlib.Core.Path.{◌≡◌, refl, ap, ◌∙◌}
use native.Mathlib.Numerals.{add-one}
use Rattle.std.specs.Prelude.{sum as list_sum}
use Rattle.std.proofs.lemmas.List.Sums.{sum_by_more}
use Rattle.arrays.specs.Arrays.{at}
use mathlib.Core.List.{List, [], ◌∷◌, ◌++◌, append_assoc}
use Prim.Native.Nat.{ℕ, zero, suc, ◌+◌, ◌*◌, ◌≤◌, ◌<◌}
use native.Mathlib.Omega.{arith}
use lib.ListN.{length, take, length-append}
use Rattle.fold.specs.Sum.{sum}
use Rattle.fold.specs.Collect.{collect}
use Rattle.fold.proofs.Sums.{sum-eq}
use Rattle.fold.proofs.Lists.{collect-eq}
use Rattle.limit.specs.Limit.{max_nodes}
use Rattle.words.specs.Buffer.{placed}
use Rattle.text.specs.Text.{decimal, ascii, blank, newline}
use Rattle.text.specs.Columns.{right_aligned}
use Rattle.text.proofs.Digits.{digits_short}
use Rattle.text.proofs.Lengths.{decimal-le}
use Rattle.text.specs.declared.put.Writer.{Writer}
use Rattle.text.specs.Writer.{Wrote}
use Rattle.text.proofs.Columns.{length_aligned}
use Rattle.text.proofs.Writing.{wrote_then, wrote_front}
use Rattle.traffic.specs.Page.{line, node_lines, last_line, page_of, page_size}
use Rattle.traffic.specs.Inner.{amounts}

-- a node's number has at most two digits
pub node_short : (k : ℕ) → k < max_nodes → length (decimal k) ≤ 2
node_short k h = digits_short 10 1 k (omega arith)

-- a line is its node and what stands behind it
pub line-is : (node : List ℕ) (sent received : ℕ) → line node sent received ≡ right_aligned 2 node ++ amounts sent received
unfolding line amounts
line-is node sent received =
    let a = right_aligned 2 node in
    let b = blank ∷ right_aligned 10 (decimal sent) in
    let c = blank ∷ right_aligned 10 (decimal received) in
    append_assoc (a ++ b) c (newline ∷ []) ∙ append_assoc a b (c ++ (newline ∷ []))

-- a number fills its column
pub length-column : (x : ℕ) → length (right_aligned 10 (decimal x)) ≡ 10
length-column x = length_aligned 10 (decimal x) (decimal-le x)

two_columns : (a b : List ℕ) → length ((blank ∷ []) ++ (a ++ ((blank ∷ []) ++ (b ++ (newline ∷ []))))) ≡ length a + length b + 3
two_columns a b = simp length-append (omega arith)

pub length-amounts : (sent received : ℕ) → length (amounts sent received) ≡ 23
unfolding amounts
length-amounts sent received =
    let a = right_aligned 10 (decimal sent) in
    let b = right_aligned 10 (decimal received) in
    two_columns a b ∙ omega (arith, length-column)

pub length-line : (node : List ℕ) (sent received : ℕ) → length node ≤ 2 → length (line node sent received) ≡ 25
length-line node sent received h =
    ap length (line-is node sent received)
    ∙ length-append (right_aligned 2 node) (amounts sent received)
    ∙ omega (arith, length_aligned 2 node h, length-amounts sent received)

-- ---- many lines

pub length_lines : (b n : ℕ) (f : ℕ → List ℕ) → ((k : ℕ) → k < n → length (f k) ≡ b) → length (collect n f) ≡ b * n
unfolding collect
length_lines b zero f h = omega arith
length_lines b (suc n) f h = simp length-append (omega (arith, length_lines b n f (λ k l. h k (omega arith)), h n (omega arith)))

module _ (n : ℕ) (sent received : ℕ → ℕ) where
  pub length-nodes : n ≤ max_nodes → length (node_lines n sent received) ≡ 25 * n
  length-nodes h =
      length_lines 25 n _ (λ k l. length-line (decimal k) (sent k) (received k) (node_short k (omega arith)))

  pub length_last : length (last_line n sent received) ≡ 25
  length_last = length-line _ (sum n sent) (sum n received) (omega arith)

  -- THEOREM. The page of n nodes has 25 × (n + 1) bytes.
  pub length-page : n ≤ max_nodes → length (page_of n sent received) ≡ page_size n
  unfolding page_of
  length-page h = simp length-append (omega (arith, length-nodes h, length_last))

-- a column added up, entry by entry
pub column-total : (xs : List ℕ) (n : ℕ) → n ≤ length xs → list_sum (take n xs) ≡ sum n (at xs)
unfolding sum
column-total xs zero h = refl
column-total xs (suc n) h =
    rw (← add-one n) (sum_by_more (λ x. x) xs n 0 h)
    ∙ ap (λ (t : ℕ). t + at xs n) (column-total xs n (omega arith))

-- the lines of the nodes were written, and the last one behind them
pub page_put : (n : ℕ) (sent received : ℕ → ℕ) {out : List ℕ} {w₀ w₁ w₂ : Writer} {s r : ℕ} → s ≡ sum n sent → r ≡ sum n received
    → w₀.out.now ≡ out → w₀.at ≡ 0 → Wrote w₀ (node_lines n sent received) w₁ → Wrote w₁ (line (ascii "==") s r) w₂ → n ≤ max_nodes
    → page_size n ≤ length out → w₂.out.now ≡ placed (page_of n sent received) out
page_put n sent received {out} {w₀} {w₁} {w₂} e f is front p q h fits =
    let size : length (page_of n sent received) ≤ length out = omega (arith, length-page n sent received h) in
    let whole : Wrote w₀ (page_of n sent received) w₂ = unfold page_of in wrote_then p (rw (e, f) at q) in
    (wrote_front is front whole size).1

-- the page follows from the nodes' numbers
pub page-eq : (n : ℕ) (s s' r r' : ℕ → ℕ) → ((k : ℕ) → k < n → s k ≡ s' k) → ((k : ℕ) → k < n → r k ≡ r' k) → page_of n s r ≡ page_of n s' r'
unfolding page_of
page-eq n s s' r r' e f =
    rw (
      collect-eq n (λ k. line (decimal k) (s k) (r k)) (λ k. line (decimal k) (s' k) (r' k)) (λ k l. rw (e k l, f k l)),
      sum-eq n s s' e,
      sum-eq n r r' f,
    )
