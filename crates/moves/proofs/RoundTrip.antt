-- What is written is read again, and what was read and accepted is written again: the words there and back, and their parts.
-- Assumes nothing.
use mathlib.Core.Path.{◌≡◌, refl, sym}
use mathlib.Core.Bool.{true}
use mathlib.Core.List.{List, [], ◌∷◌}
use Prim.Native.Nat.{ℕ, ◌+◌, ◌-◌, ◌*◌, ◌≤◌, ◌<◌, ◌^◌}
use native.Mathlib.Nat.{mul-le-mul}
use native.Mathlib.Omega.{arith}
use lib.ListN.{length, get_or, take, drop, length-take}
use lib.Seq.{take-take}
use Rattle.fold.specs.All.{every}
use Rattle.fold.specs.Rising.{rising}
use Rattle.fold.proofs.Tests.{every-at}
use Rattle.fold.proofs.Lists.{rising-at}
use Rattle.limit.specs.Limit.{max_nodes}
use Rattle.words.specs.Words.{words}
use Rattle.words.proofs.Words.{Below}
use Rattle.words.proofs.Records.{Back, below_two, take_two, record_back, record_again}
use Rattle.moves.specs.declared.MovesAnswer.{MovesAnswer}
use Rattle.moves.specs.Moves.{routes_of, counts_of, route_fine, count_fine, accepted, read_moves}
use Rattle.moves.specs.Write.{moves_words, moves_bytes}
use Rattle.moves.proofs.Laws.{route-is, count-is, length-moves}
use Rattle.moves.proofs.Accepted.{Accepted, accepted-is, words_are}

-- ---- fine routes and counts fit a word

routes-below : (n : ℕ) (rs : List ℕ) → n ≤ max_nodes → rising (route_fine n) 0 rs ≡ true → Below (2 ^ 32) rs
routes-below n rs h e i l = omega (arith, (route-is n (get_or rs i 0) (rising-at (route_fine n) 0 rs e i l)).subdomain_below)

counts-below : (ks : List ℕ) → every count_fine ks ≡ true → Below (2 ^ 32) ks
counts-below ks e i l = omega (arith, (count-is (get_or ks i 0) (every-at count_fine ks e i l)).high)

-- ---- written, then read

-- what the writer is to be handed
pub record Writable (n e : ℕ) (routes counts : List ℕ) : Type 0 where
  pub n_low : 1 ≤ n
  pub n_high : n ≤ max_nodes
  pub e_high : e ≤ n * (n - 1)
  pub routes_long : e ≤ length routes
  pub counts_long : e ≤ length counts
  pub routes_fine : rising (route_fine n) 0 (take e routes) ≡ true
  pub counts_fine_lem : every count_fine (take e counts) ≡ true

module _ (n e : ℕ) (routes counts : List ℕ) (w : Writable n e routes counts) where
  back : Back (n ∷ e ∷ []) (take e routes) (take e counts) e
  back =
      let less : n - 1 ≤ max_nodes = omega arith in
      let few : e < 2 ^ 32 = omega (arith, mul-le-mul w.n_high less) in
      record_back (n ∷ e ∷ []) (take e routes) (take e counts) e (simp length-take (omega arith)) (simp length-take (omega arith))
      (below_two (2 ^ 32) n e (omega arith) few) (routes-below n (take e routes) w.n_high w.routes_fine)
      (counts-below (take e counts) w.counts_fine_lem)

  words-written : words (moves_bytes n e routes counts) ≡ moves_words n e routes counts
  unfolding moves_bytes
  words-written = back.all

  -- THEOREM. The routes and the counts of moves that were written are those that were handed over.
  pub routes-written : routes_of (moves_bytes n e routes counts) e ≡ take e routes
  unfolding moves_bytes
  routes-written = back.first

  pub counts-written : counts_of (moves_bytes n e routes counts) e ≡ take e counts
  unfolding moves_bytes
  counts-written = back.second

  -- THEOREM. Moves that were written are accepted, with the N and E that were written.
  pub read-written : read_moves (moves_bytes n e routes counts) ≡ accepted n e
  read-written =
      accepted-is (moves_bytes n e routes counts) (accepted n e)
      (record {
        answer = refl;
        n_is = rw words-written;
        e_is = rw words-written;
        n_low = w.n_low;
        n_high = w.n_high;
        e_high = w.e_high;
        size = length-moves n e routes counts w.routes_long w.counts_long;
        routes = rw routes-written w.routes_fine;
        counts = rw counts-written w.counts_fine_lem;
      })

-- ---- read, then written

module _ (s : List ℕ) (a : MovesAnswer) (k : Accepted s a) where
  -- THEOREM. Writing the routes and counts of accepted moves gives the same bytes.
  pub written_read : Below 256 s → moves_bytes a.n a.e (routes_of s a.e) (counts_of s a.e) ≡ s
  unfolding moves_bytes
  written_read b =
      let same : a.e ≤ a.e = omega arith in
      rw (take-take a.e a.e (drop 2 (words s)) same, take-take a.e a.e (drop (2 + a.e) (words s)) same)
      (record_again s (a.n ∷ a.e ∷ []) 2 a.e b k.size
      (rw (k.n_is, k.e_is) (sym (take_two (words s) (omega (arith, words_are s a k))))))
