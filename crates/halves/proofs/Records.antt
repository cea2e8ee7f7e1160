-- The records of the two parts: their lists, and that *read moves* accepts them. Assumes nothing.
use mathlib.Core.Path.{◌≡◌, refl, sym, ap, ◌∙◌}
use mathlib.Core.Bool.{true}
use mathlib.Core.List.{List, map}
use Prim.Native.Nat.{ℕ, ◌+◌, ◌-◌, ◌*◌, ◌≤◌, ◌<◌}
use native.Mathlib.Omega.{arith}
use lib.ListN.{length, get_or, length-map}
use Rattle.fold.specs.All.{every}
use Rattle.fold.specs.Rising.{rising}
use Rattle.fold.proofs.Lists.{rising-at}
use Rattle.limit.specs.Limit.{table_size}
use Rattle.words.specs.Words.{words}
use Rattle.words.proofs.Words.{length-words, length_part}
use Rattle.moves.specs.Moves.{read_moves, accepted, route_fine, count_fine}
use Rattle.moves.proofs.Laws.{route-is}
use Rattle.moves.proofs.Accepted.{Accepted, moves-accepted, accepted-is}
use Rattle.carry.specs.Checks.{routes_in as routes_read, counts_in as counts_read}
use Rattle.halves.specs.Parts.{size_in, routes_in, counts_in, RecordOf, route_of, count_of, entries_in, Merge, Parts}
use Rattle.halves.proofs.Merges.{routes_of, counts_of, merge_exchanged, merge-length, merge-rising, merge-every}

-- ---- a record and its list

module _ {n : ℕ} {m : List ℕ} (r : RecordOf n m) where
  words_are : length (words m) ≡ 2 + 2 * size_in m
  words_are = length-words m ∙ rw r.size (omega arith)

  routes_are : length (routes_in m) ≡ size_in m
  routes_are = length_part 2 (size_in m) (words m) (omega (arith, words_are))

  counts_are : length (counts_in m) ≡ size_in m
  counts_are = length_part (2 + size_in m) (size_in m) (words m) (omega (arith, words_are))

  pub routes_listed : map route_of (entries_in m) ≡ routes_in m
  routes_listed = routes_of (routes_in m) (counts_in m) (routes_are ∙ sym counts_are)

  pub counts_listed : map count_of (entries_in m) ≡ counts_in m
  counts_listed = counts_of (routes_in m) (counts_in m) (routes_are ∙ sym counts_are)

  pub entries_are : length (entries_in m) ≡ size_in m
  entries_are = sym (length-map (entries_in m) route_of) ∙ ap length routes_listed ∙ routes_are

-- accepted moves are a record, and *carry out* reads its list
module _ (m : List ℕ) (q : (read_moves m).refusal ≡ 0) where
  pub facts : Accepted m (read_moves m)
  facts = moves-accepted m q

  pub accepted_record : RecordOf (read_moves m).n m
  accepted_record = record { nodes = sym facts.n_is; size = rw (← facts.e_is) facts.size }

  pub routes-read : routes_read m ≡ map route_of (entries_in m)
  routes-read = rw facts.e_is (sym (routes_listed accepted_record))

  pub counts-read : counts_read m ≡ map count_of (entries_in m)
  counts-read = rw facts.e_is (sym (counts_listed accepted_record))

  pub routes-rise : rising (route_fine (read_moves m).n) 0 (map route_of (entries_in m)) ≡ true
  routes-rise = rw (← routes-read) facts.routes

  pub counts_pass : every count_fine (map count_of (entries_in m)) ≡ true
  counts_pass = rw (← counts-read) facts.counts

  -- each route is one of 64 × 4,096
  pub routes-below : (i : ℕ) → i < length (map route_of (entries_in m)) → get_or (map route_of (entries_in m)) i 0 < 64 * table_size
  routes-below i l =
      let n = (read_moves m).n in
      let fine = rising-at (route_fine n) 0 (map route_of (entries_in m)) routes-rise i l in
      omega (arith, (route-is n (get_or (map route_of (entries_in m)) i 0) fine).subdomain_below, facts.n_high)

-- ---- parts

pub parts_exchanged : {s m a b : List ℕ} → Parts s m a b → Parts s m b a
parts_exchanged p =
    record {
      sheet = p.sheet;
      moves = p.moves;
      nodes = p.nodes;
      first = p.second;
      second = p.first;
      merge = merge_exchanged p.merge;
      disjoint = λ i j hi hj e. p.disjoint j i hj hi (sym e);
    }

-- a list that is merged with another into the list of accepted moves
module _ (m : List ℕ) (q : (read_moves m).refusal ≡ 0) (a b : List ℕ) (r : RecordOf (read_moves m).n a)
    (merge : Merge (entries_in m) (entries_in a) (entries_in b)) where
  few : size_in a ≤ (read_moves m).n * ((read_moves m).n - 1)
  few =
      omega
      (arith, entries_are r, entries_are (accepted_record m q), merge-length merge, (facts m q).e_is, (facts m q).e_high)

  pub part-accepted : read_moves a ≡ accepted (read_moves m).n (size_in a)
  part-accepted =
      accepted-is a (accepted (read_moves m).n (size_in a))
      (record {
        answer = refl;
        n_is = sym r.nodes;
        e_is = refl;
        n_low = (facts m q).n_low;
        n_high = (facts m q).n_high;
        e_high = few;
        size = r.size;
        routes = rw (← routes_listed r) (merge-rising (route_fine (read_moves m).n) 0 merge (routes-rise m q));
        counts = rw (← counts_listed r) (merge-every count_fine merge (counts_pass m q));
      })

-- THEOREM. Both parts are accepted by *read moves*, with the N of the whole.
module _ {s m a b : List ℕ} (p : Parts s m a b) where
  pub first-accepted : read_moves a ≡ accepted (read_moves m).n (size_in a)
  first-accepted = part-accepted m p.moves a b p.first p.merge

  pub second-accepted : read_moves b ≡ accepted (read_moves m).n (size_in b)
  second-accepted = part-accepted m p.moves b a p.second (merge_exchanged p.merge)
