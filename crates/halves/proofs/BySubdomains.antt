-- "The message library would like to send some subdomains early": the moves of any set of subdomains, and the others, are two parts.
-- Assumes nothing.
use mathlib.Core.Path.{◌≡◌, refl, sym, ap, ap₂, subst, ◌∙◌}
use mathlib.Core.Bool.{Bool, true, false, cond, true≢false}
use mathlib.Core.List.{List, [], ◌∷◌, map}
use Prim.Native.Nat.{ℕ, ◌-◌, ◌*◌, ◌≤◌, ◌<◌}
use native.Mathlib.Omega.{arith}
use borrow.Author.Tests.{not-true}
use lib.ListN.{length, get_or, take, length-map}
use lib.Seq.{take_all}
use Rattle.fold.specs.All.{every}
use Rattle.fold.proofs.Tests.{every-at, every_more}
use Rattle.sheet.specs.Sheet.{read_sheet}
use Rattle.moves.specs.declared.MovesAnswer.{MovesAnswer}
use Rattle.moves.specs.Moves.{read_moves, accepted, routes_of, counts_of, subdomain, route_fine, count_fine}
use Rattle.moves.specs.Write.{moves_bytes}
use Rattle.moves.proofs.Accepted.{moves-accepted}
use Rattle.moves.proofs.RoundTrip.{Writable, read-written, routes-written, counts-written}
use Rattle.halves.specs.Parts.{
  nodes_in,
  size_in,
  routes_in,
  RecordOf,
  Entry,
  route_of,
  count_of,
  entries,
  entries_in,
  Merge,
  Parts,
  chosen,
  part_of,
  others,
}
use Rattle.halves.proofs.Merges.{entries_of, merge-length, merge-rising, merge-every, chosen-merge}
use Rattle.halves.proofs.Records.{facts, routes_listed, entries_are, accepted_record, routes-rise, counts_pass}

-- ---- a list that is merged with another into that of accepted moves, written as a record

module _ (m : List ℕ) (q : (read_moves m).refusal ≡ 0) {es fs : List Entry} (merge : Merge (entries_in m) es fs) where
  abbrev n : ℕ
  n = (read_moves m).n

  abbrev bytes : List ℕ
  bytes = moves_bytes n (length es) (map route_of es) (map count_of es)

  all-routes : take (length es) (map route_of es) ≡ map route_of es
  all-routes = take_all (length es) (map route_of es) (omega (arith, length-map es route_of))

  all-counts : take (length es) (map count_of es) ≡ map count_of es
  all-counts = take_all (length es) (map count_of es) (omega (arith, length-map es count_of))

  few : length es ≤ n * (n - 1)
  few = omega (arith, entries_are (accepted_record m q), merge-length merge, (facts m q).e_is, (facts m q).e_high)

  writable : Writable n (length es) (map route_of es) (map count_of es)
  writable =
      record {
        n_low = (facts m q).n_low;
        n_high = (facts m q).n_high;
        e_high = few;
        routes_long = omega (arith, length-map es route_of);
        counts_long = omega (arith, length-map es count_of);
        routes_fine = rw all-routes (merge-rising (route_fine n) 0 merge (routes-rise m q));
        counts_fine_lem = rw all-counts (merge-every count_fine merge (counts_pass m q));
      }

  read_back : read_moves bytes ≡ accepted n (length es)
  read_back = read-written n (length es) (map route_of es) (map count_of es) writable

  accepted_back : (read_moves bytes).refusal ≡ 0
  accepted_back = ap (λ (a : MovesAnswer). a.refusal) read_back

  pub written_record : RecordOf n bytes
  written_record =
      subst (λ (k : ℕ). RecordOf k bytes) (ap (λ (a : MovesAnswer). a.n) read_back) (accepted_record bytes accepted_back)

  size_back : size_in bytes ≡ length es
  size_back = sym (moves-accepted bytes accepted_back).e_is ∙ ap (λ (a : MovesAnswer). a.e) read_back

  pub entries-written : entries_in bytes ≡ es
  entries-written =
      ap₂ entries
      (ap (routes_of bytes) size_back ∙ routes-written n (length es) (map route_of es) (map count_of es) writable ∙ all-routes)
      (ap (counts_of bytes) size_back ∙ counts-written n (length es) (map route_of es) (map count_of es) writable ∙ all-counts)
      ∙ entries_of es

-- ---- the moves of a set

chosen_in : (set : ℕ → Bool) (es : List Entry) → every (λ r. set (subdomain r)) (map route_of (chosen set es)) ≡ true
unfolding chosen every
chosen_in set [] = refl
chosen_in set (e ∷ es) = split (set (subdomain e.route)) refl (chosen_in set es)
  where
    split : (b : Bool) → set (subdomain e.route) ≡ b → every (λ r. set (subdomain r)) (map route_of (chosen set es)) ≡ true
        → every (λ r. set (subdomain r)) (map route_of (cond b (e ∷ chosen set es) (chosen set es))) ≡ true
    split true f ih = every_more (λ r. set (subdomain r)) e.route (map route_of (chosen set es)) f ∙ ih
    split false f ih = ih

module _ (set : ℕ → Bool) (m : List ℕ) (q : (read_moves m).refusal ≡ 0) where
  nodes_are : nodes_in m ≡ (read_moves m).n
  nodes_are = sym (facts m q).n_is

  part_record : RecordOf (read_moves m).n (part_of set m)
  part_record = rw nodes_are (written_record m q (chosen-merge set (entries_in m)))

  part-entries : entries_in (part_of set m) ≡ chosen set (entries_in m)
  part-entries = rw nodes_are (entries-written m q (chosen-merge set (entries_in m)))

  part_in : (i : ℕ) → i < length (routes_in (part_of set m)) → set (subdomain (get_or (routes_in (part_of set m)) i 0)) ≡ true
  part_in =
      let routes : routes_in (part_of set m) ≡ map route_of (chosen set (entries_in m)) =
      sym (routes_listed part_record) ∙ ap (map route_of) part-entries in
      rw routes (every-at (λ r. set (subdomain r)) (map route_of (chosen set (entries_in m))) (chosen_in set (entries_in m)))

-- THEOREM. For an accepted sheet and accepted moves of equal N, the moves of a set of subdomains and all others are two parts.
pub by_subdomains : (set : ℕ → Bool) (s m : List ℕ) → (read_sheet s).refusal ≡ 0 → (read_moves m).refusal ≡ 0 → (read_sheet s).n ≡ (read_moves m).n
    → Parts s m (part_of set m) (part_of (others set) m)
by_subdomains set s m sheet moves nodes =
    record {
      sheet = sheet;
      moves = moves;
      nodes = nodes;
      first = part_record set m moves;
      second = part_record (others set) m moves;
      merge = rw (part-entries set m moves, part-entries (others set) m moves) (chosen-merge set (entries_in m));
      disjoint = λ i j hi hj e.
          true≢false
          (sym (part_in set m moves i hi) ∙ ap set e
          ∙ not-true (set (subdomain (get_or (routes_in (part_of (others set) m)) j 0))) (part_in (others set) m moves j hj));
    }
