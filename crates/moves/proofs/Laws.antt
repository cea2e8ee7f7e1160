-- Laws of the record's parts: the tests of a route and of a count say neither more nor less than their parts, and the record has
-- the length that *read moves* asks for. Assumes nothing.
use mathlib.Core.Path.{◌≡◌}
use mathlib.Core.Logic.{◌≢◌}
use mathlib.Core.Bool.{true, ◌&&◌, not}
use mathlib.Core.List.{List}
use Prim.Native.Nat.{ℕ, ◌+◌, ◌*◌, ◌≤◌, ◌<◌}
use native.Mathlib.Omega.{arith}
use lib.Dec.{ltb, leb, eqb}
use lib.ListN.{length, take, length-append, length-take}
use lib.Seq.{take-take}
use borrow.Author.Tests.{ltb-true, leb-true, eqb-false, not-true, lt-ltb, le-leb, ne_eqb}
use Rattle.fold.proofs.Tests.{and_left, and_right}
use Rattle.limit.specs.Limit.{max_total}
use Rattle.words.proofs.Words.{length-encode}
use Rattle.moves.specs.Moves.{route, subdomain, sender, receiver, route_fine, count_fine}
use Rattle.moves.specs.Write.{moves_bytes}

-- ---- routes

-- a route is put together from its parts, and they are taken from it
pub route-parts : (r : ℕ) → route (subdomain r) (sender r) (receiver r) ≡ r
route-parts r = omega arith

module _ (n s r : ℕ) (hs : s < 64) (hr : r < 64) where
  pub route-subdomain : subdomain (route n s r) ≡ n
  route-subdomain = omega arith

  pub route-sender : sender (route n s r) ≡ s
  route-sender = omega arith

  pub route-receiver : receiver (route n s r) ≡ r
  route-receiver = omega arith

pub record FineRoute (n r : ℕ) : Type 0 where
  pub subdomain_below : subdomain r < n
  pub sender_below : sender r < n
  pub receiver_below : receiver r < n
  pub apart : sender r ≢ receiver r

pub route-is : (n r : ℕ) → route_fine n r ≡ true → FineRoute n r
route-is n r e =
    let apart = not (eqb (sender r) (receiver r)) in
    let e₁ = and_right (ltb (subdomain r) n) (ltb (sender r) n && (ltb (receiver r) n && apart)) e in
    let e₂ = and_right (ltb (sender r) n) (ltb (receiver r) n && apart) e₁ in
    record {
      subdomain_below = ltb-true (subdomain r) n (and_left (ltb (subdomain r) n) (ltb (sender r) n && (ltb (receiver r) n && apart)) e);
      sender_below = ltb-true (sender r) n (and_left (ltb (sender r) n) (ltb (receiver r) n && apart) e₁);
      receiver_below = ltb-true (receiver r) n (and_left (ltb (receiver r) n) apart e₂);
      apart = eqb-false (sender r) (receiver r) (not-true _ (and_right (ltb (receiver r) n) apart e₂));
    }

pub route_of_lem : (n r : ℕ) → FineRoute n r → route_fine n r ≡ true
route_of_lem n r f =
    rw (lt-ltb _ _ f.subdomain_below, lt-ltb _ _ f.sender_below, lt-ltb _ _ f.receiver_below, ne_eqb _ _ f.apart)

-- ---- counts

pub record FineCount (k : ℕ) : Type 0 where
  pub low : 1 ≤ k
  pub high : k ≤ max_total

pub count-is : (k : ℕ) → count_fine k ≡ true → FineCount k
count-is k e =
    record {
      low = ltb-true 0 k (and_left (ltb 0 k) (leb k max_total) e);
      high = leb-true k max_total (and_right (ltb 0 k) (leb k max_total) e);
    }

pub count_of_lem : (k : ℕ) → FineCount k → count_fine k ≡ true
count_of_lem k f = rw (lt-ltb 0 k f.low, le-leb k max_total f.high)

-- ---- the record written

pub length-moves : (n e : ℕ) (routes counts : List ℕ) → e ≤ length routes → e ≤ length counts
    → length (moves_bytes n e routes counts) ≡ 4 * (2 + 2 * e)
unfolding moves_bytes
length-moves n e routes counts hr hc = simp (length-encode, length-append, length-take) (omega arith)

-- moves of the first e entries of two arrays
pub moves-front : (n e : ℕ) (routes counts : List ℕ) → moves_bytes n e (take e routes) (take e counts) ≡ moves_bytes n e routes counts
unfolding moves_bytes
moves-front n e routes counts =
    let same : e ≤ e = omega arith in
    rw (take-take e e routes same, take-take e e counts same)
