-- The page read again, line by line and column by column: each number that was printed is read back, and both totals are the sum of the
-- counts in the moves record. Assumes nothing.
use mathlib.Core.Path.{◌≡◌, refl, sym, ap, ◌∙◌}
use mathlib.Core.List.{List, [], ◌∷◌, ◌++◌, append_assoc, append-nil}
use Prim.Native.Nat.{ℕ, zero, suc, ◌*◌, ◌≤◌, ◌<◌, ◌^◌}
use native.Mathlib.Decide.{ℕ_discrete}
use native.Mathlib.Omega.{arith}
use lib.ListN.{length, take, length-append}
use lib.Seq.{take-append_seam, drop-append_seam}
use Rattle.fold.specs.Sum.{sum}
use Rattle.fold.specs.Collect.{collect}
use Rattle.limit.specs.Limit.{max_nodes}
use Rattle.words.specs.Words.{part}
use Rattle.words.specs.declared.WrittenAnswer.{WrittenAnswer}
use Rattle.words.proofs.Buffer.{after_front}
use Rattle.sheet.specs.Sheet.{read_sheet}
use Rattle.sheet.proofs.Accepted.{sheet-accepted}
use Rattle.moves.specs.Moves.{sender, receiver}
use Rattle.transfer.proofs.Counts.{moved-most}
use Rattle.carry.specs.Checks.{routes_in, counts_in}
use Rattle.carry.proofs.Checks.{Carriable}
use Rattle.text.specs.Text.{decimal, ascii, blank, newline}
use Rattle.text.specs.Columns.{right_aligned, read_column}
use Rattle.text.proofs.Columns.{length_aligned, read_aligned}
use Rattle.traffic.specs.Page.{sent_by, received_by, line, node_lines, last_line, page_of, page_in, page_answer, page_after, line_at, node_column, sent_column, received_column, PageReadBack}
use Rattle.traffic.proofs.Lines.{node_short, length-column, length-line, length_lines, length-nodes, length_last, length-page}
use Rattle.traffic.proofs.Sums.{total-small, sent-sum, received-sum}
use Rattle.traffic.proofs.Printed.{printed, prints}

-- ---- a part of a list

-- what stands between two others
part_of : (a b : ℕ) {whole : List ℕ} (xs ys zs : List ℕ) → whole ≡ xs ++ (ys ++ zs) → length xs ≡ a → length ys ≡ b → part a b whole ≡ ys
part_of a b xs ys zs is e f = rw (is, ← e, ← f, drop-append_seam xs (ys ++ zs)) (take-append_seam ys zs)

-- one of many parts of the same length
part-collect : (b n : ℕ) (f : ℕ → List ℕ) → ((k : ℕ) → k < n → length (f k) ≡ b) → (k : ℕ) → k < n → (rest : List ℕ)
    → part (b * k) b (collect n f ++ rest) ≡ f k
unfolding collect
part-collect b zero f h k l rest = absurd (omega arith)
part-collect b (suc n) f h k l rest =
    let before : (j : ℕ) → j < n → length (f j) ≡ b = λ j m. h j (omega arith) in
    let apart = append_assoc (collect n f) (f n) rest in
    elim (ℕ_discrete k n) [
      | yes e ↦ rw e (part_of (b * n) b (collect n f) (f n) rest apart (length_lines b n f before) (h n (omega arith)))
      | no d ↦ ap (part (b * k) b) apart ∙ part-collect b n f before k (omega (arith, d)) (f n ++ rest)
    ]

-- ---- the columns of a line

module _ (node : List ℕ) (sent received : ℕ) (short : length node ≤ 2) where
  abbrev first : List ℕ
  first = right_aligned 2 node

  abbrev second : List ℕ
  second = right_aligned 10 (decimal sent)

  abbrev third : List ℕ
  third = right_aligned 10 (decimal received)

  abbrev end : List ℕ
  end = newline ∷ []

  size_1 : length first ≡ 2
  size_1 = length_aligned 2 node short

  size_2 : length second ≡ 10
  size_2 = length-column sent

  size_3 : length third ≡ 10
  size_3 = length-column received

  node-is : node_column (line node sent received) ≡ first
  unfolding line
  node-is =
      let apart = append_assoc (first ++ (blank ∷ second)) (blank ∷ third) end
      ∙ append_assoc first (blank ∷ second) ((blank ∷ third) ++ end) in
      part_of 0 2 [] first ((blank ∷ second) ++ ((blank ∷ third) ++ end)) apart refl size_1

  sent_is : sent_column (line node sent received) ≡ second
  unfolding line
  sent_is =
      let rest = (blank ∷ third) ++ end in
      let apart = append_assoc (first ++ (blank ∷ second)) (blank ∷ third) end
      ∙ append_assoc first (blank ∷ second) rest
      ∙ sym (append_assoc first (blank ∷ []) (second ++ rest)) in
      part_of 3 10 (first ++ (blank ∷ [])) second rest apart (length-append first (blank ∷ []) ∙ omega (arith, size_1)) size_2

  received_is : received_column (line node sent received) ≡ third
  unfolding line
  received_is =
      let before = first ++ (blank ∷ second) in
      let apart = append_assoc before (blank ∷ third) end ∙ sym (append_assoc before (blank ∷ []) (third ++ end)) in
      part_of 14 10 (before ++ (blank ∷ [])) third end apart
      (length-append before (blank ∷ []) ∙ omega (arith, length-append first (blank ∷ second), size_1, size_2)) size_3

  -- the numbers are read back
  sent-read : sent < 2 ^ 32 → read_column (sent_column (line node sent received)) ≡ sent
  sent-read h = ap read_column sent_is ∙ read_aligned 10 sent h

  received-read : received < 2 ^ 32 → read_column (received_column (line node sent received)) ≡ received
  received-read h = ap read_column received_is ∙ read_aligned 10 received h

-- ---- the lines of a page

module _ (n : ℕ) (h : n ≤ max_nodes) (sent received : ℕ → ℕ) where
  abbrev line_of : ℕ → List ℕ
  line_of k = line (decimal k) (sent k) (received k)

  node-line : (k : ℕ) → k < n → line_at (page_of n sent received) k ≡ line_of k
  unfolding page_of
  node-line k l =
      part-collect 25 n line_of (λ j b. length-line (decimal j) (sent j) (received j) (node_short j (omega arith))) k l
      (last_line n sent received)

  last_line_lem : line_at (page_of n sent received) n ≡ last_line n sent received
  unfolding page_of
  last_line_lem =
      let nodes = node_lines n sent received in
      let last = last_line n sent received in
      part_of (25 * n) 25 nodes last [] (ap (λ (bs : List ℕ). nodes ++ bs) (sym (append-nil last))) (length-nodes n sent received h)
      (length_last n sent received)

-- ---- the page of a sheet and moves that pass the checks

module _ {s m : List ℕ} (d : Carriable s m) where
  abbrev n₀ : ℕ
  n₀ = (read_sheet s).n

  n-most : n₀ ≤ max_nodes
  n-most = (sheet-accepted s d.sheet).n_high

  sent_word : (k : ℕ) → sent_by m k < 2 ^ 32
  sent_word k = omega (arith, moved-most sender (routes_in m) (counts_in m) k, total-small d)

  received-word : (k : ℕ) → received_by m k < 2 ^ 32
  received-word k = omega (arith, moved-most receiver (routes_in m) (counts_in m) k, total-small d)

  short : (k : ℕ) → k < n₀ → length (decimal k) ≤ 2
  short k l = node_short k (omega (arith, n-most))

  pub page_back : PageReadBack s m (page_in s m)
  page_back =
      let node = node-line n₀ n-most (sent_by m) (received_by m) in
      let last = last_line_lem n₀ n-most (sent_by m) (received_by m) in
      let sums : sum n₀ (sent_by m) < 2 ^ 32 = omega (arith, sent-sum d, total-small d) in
      let sums' : sum n₀ (received_by m) < 2 ^ 32 = omega (arith, received-sum d, total-small d) in
      let two : length (ascii "==") ≤ 2 = omega arith in
      record {
        size = length-page n₀ (sent_by m) (received_by m) n-most;
        node = λ k l.
            ap (λ (x : List ℕ). read_column (node_column x)) (node k l)
            ∙ ap read_column (node-is (decimal k) (sent_by m k) (received_by m k) (short k l))
            ∙ read_aligned 2 k (omega (arith, n-most));
        sent = λ k l.
            ap (λ (x : List ℕ). read_column (sent_column x)) (node k l)
            ∙ sent-read (decimal k) (sent_by m k) (received_by m k) (short k l) (sent_word k);
        received = λ k l.
            ap (λ (x : List ℕ). read_column (received_column x)) (node k l)
            ∙ received-read (decimal k) (sent_by m k) (received_by m k) (short k l) (received-word k);
        last = ap node_column last ∙ node-is (ascii "==") (sum n₀ (sent_by m)) (sum n₀ (received_by m)) two;
        total_sent =
            ap (λ (x : List ℕ). read_column (sent_column x)) last
            ∙ sent-read (ascii "==") (sum n₀ (sent_by m)) (sum n₀ (received_by m)) two sums
            ∙ sent-sum d;
        total_received =
            ap (λ (x : List ℕ). read_column (received_column x)) last
            ∙ received-read (ascii "==") (sum n₀ (sent_by m)) (sum n₀ (received_by m)) two sums'
            ∙ received-sum d;
      }

-- THEOREM. After an accepted call the bytes in front of the buffer, of the length given, are read back as the traffic of the moves: each
-- node's line as its number, what it sends and what it receives; and both totals as the sum of the counts in the moves record.
pub page-read_back : (s m out : List ℕ) → (page_answer s m (length out)).refusal ≡ 0
    → PageReadBack s m (take (page_answer s m (length out)).bytes (page_after s m out))
page-read_back s m out q =
    let d = printed s m (length out) q in
    let bytes : (page_answer s m (length out)).bytes ≡ length (page_in s m) =
    ap (λ (a : WrittenAnswer). a.bytes) (prints s m (length out) d.0 d.1)
    ∙ sym (length-page (read_sheet s).n (sent_by m) (received_by m) (n-most d.0)) in
    rw (bytes, after_front (page_answer s m (length out)).refusal (page_in s m) out q) (page_back d.0)
