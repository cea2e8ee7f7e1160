-- The moves of all subdomains, one subdomain after the other: how many there are, and how they are written. Assumes nothing.
use mathlib.Core.Path.{◌≡◌, refl, sym, ap, ap₂, ◌∙◌}
use mathlib.Core.List.{List, [], ◌++◌, map}
use Prim.Native.Nat.{ℕ, zero, suc, ◌+◌, ◌-◌, ◌*◌, ◌≤◌, ◌<◌}
use native.Mathlib.Omega.{arith}
use lib.ListN.{length, length-append, length-map}
use Rattle.fold.specs.Collect.{collect}
use Rattle.fold.proofs.Lists.{collect_more, collect-eq}
use Rattle.sheet.specs.Table.{held}
use Rattle.transfer.specs.Matching.{Move, surplus_of, shortage_of, moves_between, route_of, count_of, subdomain_moves, all_routes, all_counts}
use Rattle.transfer.proofs.Turns.{matched-eq}
use Rattle.transfer.proofs.Matched.{moves-few}

-- only what nodes hold and are due is looked at
pub moves-eq : (nodes : ℕ) (holding due holding' due' : ℕ → ℕ) → ((k : ℕ) → k < nodes → holding k ≡ holding' k)
    → ((k : ℕ) → k < nodes → due k ≡ due' k)
    → moves_between nodes holding due ≡ moves_between nodes holding' due'
moves-eq nodes holding due holding' due' h e =
    matched-eq nodes (λ k. surplus_of (holding k) (due k)) (λ k. shortage_of (holding k) (due k)) (λ k. surplus_of (holding' k) (due' k))
    (λ k. shortage_of (holding' k) (due' k))
    (λ k l. ap₂ surplus_of (h k l) (e k l)) (λ k l. ap₂ shortage_of (h k l) (e k l)) (2 * nodes) 0 0 0 0

module _ (nodes : ℕ) (table : List ℕ) (due : ℕ → ℕ → ℕ) where
  abbrev pub subdomain_routes : ℕ → List ℕ
  subdomain_routes n = map (route_of n) (subdomain_moves nodes table due n)

  abbrev pub subdomain_counts : ℕ → List ℕ
  subdomain_counts n = map count_of (subdomain_moves nodes table due n)

  pub lengths_in : (n : ℕ) → length (subdomain_routes n) ≡ length (subdomain_counts n)
  lengths_in n = length-map (subdomain_moves nodes table due n) (route_of n) ∙ sym (length-map (subdomain_moves nodes table due n) count_of)

  pub lengths : (n : ℕ) → length (collect n subdomain_routes) ≡ length (collect n subdomain_counts)
  unfolding collect
  lengths zero = refl
  lengths (suc n) = simp length-append (omega (arith, lengths n, lengths_in n))

  -- fewer than N in each subdomain
  pub few-all : (n : ℕ) → length (collect n subdomain_routes) ≤ n * (nodes - 1)
  unfolding collect
  few-all zero = omega arith
  few-all (suc n) =
      let f : length (subdomain_moves nodes table due n) ≤ nodes - 1 = moves-few nodes (λ k. held table k n) (due n) in
      simp length-append (omega (arith, few-all n, length-map (subdomain_moves nodes table due n) (route_of n), f))

  -- the list holds the moves of the first n subdomains
  pub record WrittenBelow (n : ℕ) (routes counts : List ℕ) : Type 0 where
    pub routes_are : routes ≡ collect n subdomain_routes
    pub counts_are : counts ≡ collect n subdomain_counts

  pub written_none : {routes counts : List ℕ} → routes ≡ [] → counts ≡ [] → WrittenBelow 0 routes counts
  unfolding collect
  written_none er ec = record { routes_are = er; counts_are = ec }

  pub written_more : {n : ℕ} {routes counts : List ℕ} → WrittenBelow n routes counts → (moves : List Move) {routes' counts' : List ℕ}
      → moves ≡ subdomain_moves nodes table due n
      → routes' ≡ routes ++ map (route_of n) moves → counts' ≡ counts ++ map count_of moves
      → WrittenBelow (n + 1) routes' counts'
  written_more {n} w moves m er ec =
      record {
        routes_are = er ∙ rw (m, w.routes_are) (sym (collect_more n subdomain_routes));
        counts_are = ec ∙ rw (m, w.counts_are) (sym (collect_more n subdomain_counts));
      }

-- what is due matters below the number of nodes alone
module _ (nodes : ℕ) (table : List ℕ) (due due' : ℕ → ℕ → ℕ) (same : (n : ℕ) → n < nodes → due n ≡ due' n) where
  pub all-routes-eq : all_routes nodes table due ≡ all_routes nodes table due'
  all-routes-eq =
      collect-eq nodes (subdomain_routes nodes table due) (subdomain_routes nodes table due')
      (λ n l. ap (λ (f : ℕ → ℕ). map (route_of n) (moves_between nodes (λ k. held table k n) f)) (same n l))

  pub all-counts-eq : all_counts nodes table due ≡ all_counts nodes table due'
  all-counts-eq =
      collect-eq nodes (subdomain_counts nodes table due) (subdomain_counts nodes table due')
      (λ n l. ap (λ (f : ℕ → ℕ). map count_of (moves_between nodes (λ k. held table k n) f)) (same n l))
