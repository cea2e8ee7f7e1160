-- What is known of moves that were accepted: every check passed, so each says its part; and moves of which all this is known are
-- accepted. Assumes nothing.
use mathlib.Core.Path.{◌≡◌, refl, sym, ap, ◌∙◌}
use mathlib.Core.Bool.{true, not}
use mathlib.Core.List.{List}
use Prim.Native.Nat.{ℕ, ◌+◌, ◌-◌, ◌*◌, ◌≤◌, ◌<◌}
use native.Mathlib.Omega.{arith}
use lib.Dec.{ltb, eqb}
use lib.ListN.{length, get_or}
use borrow.Author.Tests.{ltb-false, eqb-true, not-false, le-ltb, eq-eqb}
use Rattle.fold.specs.All.{every}
use Rattle.fold.specs.Rising.{rising}
use Rattle.fold.proofs.Tests.{passed, every-at}
use Rattle.fold.proofs.Lists.{rising-at}
use Rattle.limit.specs.Limit.{max_nodes, one_to}
use Rattle.limit.proofs.Laws.{one-to-is, one-to_of}
use Rattle.words.specs.Words.{words}
use Rattle.words.proofs.Words.{length-words, length_part, part_at}
use Rattle.moves.specs.declared.Moves.{Moves}
use Rattle.moves.specs.declared.MovesAnswer.{MovesAnswer}
use Rattle.moves.specs.Moves.{refused, accepted, answer_of, routes_of, counts_of, route_fine, count_fine, head_answer, read_moves}
use Rattle.moves.proofs.Laws.{FineRoute, route-is, FineCount, count-is}
use Rattle.std.specs.Prelude.{Ok}

pub record Accepted (s : List ℕ) (a : MovesAnswer) : Type 0 where
  pub answer : a ≡ accepted a.n a.e
  pub n_is : a.n ≡ get_or (words s) 0 0
  pub e_is : a.e ≡ get_or (words s) 1 0
  pub n_low : 1 ≤ a.n
  pub n_high : a.n ≤ max_nodes
  pub e_high : a.e ≤ a.n * (a.n - 1)
  pub size : length s ≡ 4 * (2 + 2 * a.e)
  pub routes : rising (route_fine a.n) 0 (routes_of s a.e) ≡ true
  pub counts : every count_fine (counts_of s a.e) ≡ true

abbrev refusal : MovesAnswer → ℕ
refusal a = a.refusal

pub moves-accepted : (s : List ℕ) → (read_moves s).refusal ≡ 0 → Accepted s (read_moves s)
unfolding read_moves
moves-accepted s q =
    let n = get_or (words s) 0 0 in
    let e = get_or (words s) 1 0 in
    let a₁ = passed refusal (ltb (length s) 8) (refused 31) (head_answer s n e) (λ z. omega arith) q in
    let a₂ = passed refusal (not (one_to max_nodes n)) (refused 32) _ (λ z. omega arith) a₁.1 in
    let a₃ = passed refusal (ltb (n * (n - 1)) e) (refused 33) _ (λ z. omega arith) a₂.1 in
    let a₄ = passed refusal (not (eqb (length s) (4 * (2 + 2 * e)))) (refused 34) _ (λ z. omega arith) a₃.1 in
    let a₅ = passed refusal (not (rising (route_fine n) 0 (routes_of s e))) (refused 35) _ (λ z. omega arith) a₄.1 in
    let a₆ = passed refusal (not (every count_fine (counts_of s e))) (refused 36) _ (λ z. omega arith) a₅.1 in
    let nodes = one-to-is max_nodes n (not-false _ a₂.0) in
    rw (a₁.0, a₂.0, a₃.0, a₄.0, a₅.0, a₆.0)
    (record {
      answer = refl;
      n_is = refl;
      e_is = refl;
      n_low = nodes.0;
      n_high = nodes.1;
      e_high = ltb-false (n * (n - 1)) e a₃.0;
      size = eqb-true (length s) (4 * (2 + 2 * e)) (not-false _ a₄.0);
      routes = not-false _ a₅.0;
      counts = not-false _ a₆.0;
    })

-- the same of a reading
pub reading_accepted : (s : List ℕ) (m : Moves) → answer_of (Ok m) ≡ read_moves s → Accepted s (accepted m.n m.e)
reading_accepted s m e = rw e (moves-accepted s (sym (ap refusal e)))

-- ---- what callers need of accepted moves

module _ (s : List ℕ) (a : MovesAnswer) (k : Accepted s a) where
  -- they are accepted, with the values of a
  pub accepted-is : read_moves s ≡ a
  unfolding read_moves
  accepted-is =
      let long : 8 ≤ length s = omega (arith, k.size) in
      rw (
        le-ltb (length s) 8 long,
        ← k.n_is,
        ← k.e_is,
        one-to_of max_nodes a.n k.n_low k.n_high,
        le-ltb (a.n * (a.n - 1)) a.e k.e_high,
        eq-eqb (length s) (4 * (2 + 2 * a.e)) k.size,
        k.routes,
        k.counts,
      )
      (sym k.answer)

  pub words_are : length (words s) ≡ 2 + 2 * a.e
  words_are = length-words s ∙ rw k.size (omega arith)

  pub routes_are : length (routes_of s a.e) ≡ a.e
  routes_are = length_part 2 a.e (words s) (omega (arith, words_are))

  pub counts_are : length (counts_of s a.e) ≡ a.e
  counts_are = length_part (2 + a.e) a.e (words s) (omega (arith, words_are))

  -- each route and each count
  pub route-at : (i : ℕ) → i < a.e → FineRoute a.n (get_or (words s) (2 + i) 0)
  route-at i h =
      let f = rising-at (route_fine a.n) 0 (routes_of s a.e) k.routes i (omega (arith, routes_are)) in
      route-is a.n (get_or (words s) (2 + i) 0) (rw (part_at (words s) 2 a.e i h) at f)

  pub count_at_lem : (i : ℕ) → i < a.e → FineCount (get_or (words s) (2 + a.e + i) 0)
  count_at_lem i h =
      let f = every-at count_fine (counts_of s a.e) k.counts i (omega (arith, counts_are)) in
      count-is (get_or (words s) (2 + a.e + i) 0) (rw (part_at (words s) (2 + a.e) a.e i h) at f)
