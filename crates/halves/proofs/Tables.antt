-- Two lists of moves with disjoint subdomains on one table: at each cell the one or the other moves nothing. So the tests of 42 are
-- those of each list on the first table, and the table that follows is the same. Assumes nothing.
use mathlib.Core.Path.{◌≡◌, sym, ◌∙◌}
use mathlib.Core.Logic.{◌≢◌, ◌⊎◌, inl, inr, ⊎_elim}
use mathlib.Core.Bool.{Bool, true}
use mathlib.Core.List.{List, [], ◌∷◌, map}
use Prim.Native.Nat.{ℕ, zero, suc, ◌*◌, ◌%◌, ◌<◌}
use native.Mathlib.Decide.{ℕ_discrete}
use native.Mathlib.Omega.{arith}
use lib.ListN.{length, get_or}
use lib.Seq.{ext_get_or}
use Rattle.limit.specs.Limit.{table_size}
use Rattle.moves.specs.Moves.{subdomain}
use Rattle.transfer.specs.Apply.{from_cell, into_cell, sends_within, carried}
use Rattle.transfer.proofs.Ends.{moved_absent}
use Rattle.transfer.proofs.Applied.{carried-at, length-carried, within-at, within_of}
use Rattle.halves.specs.Parts.{Entry, route_of, count_of, Merge}
use Rattle.halves.proofs.Merges.{moved_by, merge-moved}

-- ---- whether a subdomain occurs in a list of routes

abbrev Occurs : ℕ → List ℕ → Type 0
Occurs n routes = (i : ℕ) × (i < length routes) × (subdomain (get_or routes i 0) ≡ n)

abbrev Absent : ℕ → List ℕ → Type 0
Absent n routes = (i : ℕ) → i < length routes → subdomain (get_or routes i 0) ≢ n

absent_more : (n r : ℕ) (routes : List ℕ) → subdomain r ≢ n → Absent n routes → Absent n (r ∷ routes)
absent_more n r routes d f zero l = d
absent_more n r routes d f (suc i) l = f i (omega arith)

occurs_or : (n : ℕ) (routes : List ℕ) → Occurs n routes ⊎ Absent n routes
occurs_or n [] = inr (λ i l. absurd (omega arith))
occurs_or n (r ∷ routes) = elim (ℕ_discrete (subdomain r) n) [
  | yes e ↦ inl (0, omega arith, e)
  | no d ↦
      ⊎_elim (λ (o : Occurs n routes). inl (suc o.0, omega (arith, o.1), o.2))
      (λ (f : Absent n routes). inr (absent_more n r routes d f)) (occurs_or n routes)
]

-- ---- one list

abbrev Below : List Entry → Type 0
Below es = (i : ℕ) → i < length (map route_of es) → get_or (map route_of es) i 0 < 64 * table_size

-- nothing leaves cell c, and nothing comes to it
pub record Still (es : List Entry) (c : ℕ) : Type 0 where
  pub out : moved_by from_cell es c ≡ 0
  pub into : moved_by into_cell es c ≡ 0

still : (es : List Entry) (c : ℕ) → Below es → Absent (c % 64) (map route_of es) → Still es c
still es c below absent =
    record {
      out = moved_absent from_cell (map route_of es) (map count_of es) c (λ i l e. absent i l (omega (arith, e, below i l)));
      into = moved_absent into_cell (map route_of es) (map count_of es) c (λ i l e. absent i l (omega (arith, e, below i l)));
    }

-- ---- two

abbrev pub within_by : List ℕ → List Entry → Bool
within_by table es = sends_within table (map route_of es) (map count_of es)

abbrev pub carried_by : List ℕ → List Entry → List ℕ
carried_by table es = carried table (map route_of es) (map count_of es)

module _ {whole a b : List Entry} (merge : Merge whole a b) (table : List ℕ) where
  -- a part sends no more than the whole
  pub within-part : within_by table whole ≡ true → within_by table a ≡ true
  within-part w =
      within_of table (map route_of a) (map count_of a)
      (λ c l. omega (arith, within-at table (map route_of whole) (map count_of whole) w c l, merge-moved from_cell c merge))

  module _ (below-a : Below a) (below-b : Below b)
      (disjoint : (i j : ℕ) → i < length (map route_of a) → j < length (map route_of b)
      → subdomain (get_or (map route_of a) i 0) ≢ subdomain (get_or (map route_of b) j 0)) where
    one_still : (c : ℕ) → Still a c ⊎ Still b c
    one_still c =
        ⊎_elim
        (λ (o : Occurs (c % 64) (map route_of a)). inr (still b c below-b (λ j l e. disjoint o.0 j o.1 l (o.2 ∙ sym e))))
        (λ (f : Absent (c % 64) (map route_of a)). inl (still a c below-a f))
        (occurs_or (c % 64) (map route_of a))

    -- the whole is within what the cells hold where both parts are
    pub within-whole : within_by table a ≡ true → within_by table b ≡ true → within_by table whole ≡ true
    within-whole wa wb =
        within_of table (map route_of whole) (map count_of whole)
        (λ c l.
        let sum = merge-moved from_cell c merge in
        ⊎_elim
        (λ (z : Still a c). omega (arith, sum, z.out, within-at table (map route_of b) (map count_of b) wb c l))
        (λ (z : Still b c). omega (arith, sum, z.out, within-at table (map route_of a) (map count_of a) wa c l))
        (one_still c))

    -- on the table after the first part the second is tested as on the table before it
    pub within-after : within_by table b ≡ true → within_by (carried_by table a) b ≡ true
    within-after w =
        within_of (carried_by table a) (map route_of b) (map count_of b)
        (λ c l.
        let l₀ : c < length table = omega (arith, length-carried (map route_of a) (map count_of a) table) in
        let now = carried-at (map route_of a) (map count_of a) table c l₀ in
        ⊎_elim
        (λ (z : Still a c). omega (arith, now, z.out, z.into, within-at table (map route_of b) (map count_of b) w c l₀))
        (λ (z : Still b c). omega (arith, z.out))
        (one_still c))

    pub within_before : within_by (carried_by table a) b ≡ true → within_by table b ≡ true
    within_before w =
        within_of table (map route_of b) (map count_of b)
        (λ c l.
        let l₁ : c < length (carried_by table a) = omega (arith, length-carried (map route_of a) (map count_of a) table) in
        let now = carried-at (map route_of a) (map count_of a) table c l in
        ⊎_elim
        (λ (z : Still a c). omega (arith, now, z.out, z.into, within-at (carried_by table a) (map route_of b) (map count_of b) w c l₁))
        (λ (z : Still b c). omega (arith, z.out))
        (one_still c))

    -- the table that follows
    pub carried_twice : carried_by (carried_by table a) b ≡ carried_by table whole
    carried_twice =
        let size-a = length-carried (map route_of a) (map count_of a) table in
        let size-b = length-carried (map route_of b) (map count_of b) (carried_by table a) in
        let size = length-carried (map route_of whole) (map count_of whole) table in
        ext_get_or 0 (carried_by (carried_by table a) b) (carried_by table whole) (size-b ∙ size-a ∙ sym size)
        (λ c l.
        let l₁ : c < length (carried_by table a) = omega (arith, size-b) in
        let l₀ : c < length table = omega (arith, size-a) in
        let twice = carried-at (map route_of b) (map count_of b) (carried_by table a) c l₁ in
        let once = carried-at (map route_of a) (map count_of a) table c l₀ in
        let all = carried-at (map route_of whole) (map count_of whole) table c l₀ in
        let out = merge-moved from_cell c merge in
        let into = merge-moved into_cell c merge in
        ⊎_elim
        (λ (z : Still a c). omega (arith, twice, once, all, out, into, z.out, z.into))
        (λ (z : Still b c). omega (arith, twice, once, all, out, into, z.out, z.into))
        (one_still c))
