-- Request 2026-10: "For an accepted sheet and accepted moves of equal N, divide the moves, their order kept, into any two lists whose
-- subdomains are disjoint." Each list is a record of its own with that N, and may be empty. All of this is about bytes.
use Rattle.std.specs.Prelude.{◌≡◌, ◌≢◌, Bool, not, cond, List, [], ◌∷◌, map, ℕ, ◌+◌, ◌*◌, ◌<◌, length, get_or}
use Rattle.words.specs.Words.{words}
use Rattle.sheet.specs.Sheet.{read_sheet}
use Rattle.moves.specs.Moves.{read_moves, routes_of, counts_of, subdomain}
use Rattle.moves.specs.Write.{moves_bytes}

-- ---- a record of moves, whether *read moves* accepts it or not: "Moves: N, E; E routes; E counts."

abbrev pub nodes_in : List ℕ → ℕ
nodes_in m = get_or (words m) 0 0

abbrev pub size_in : List ℕ → ℕ
size_in m = get_or (words m) 1 0

abbrev pub routes_in : List ℕ → List ℕ
routes_in m = routes_of m (size_in m)

abbrev pub counts_in : List ℕ → List ℕ
counts_in m = counts_of m (size_in m)

-- bytes that are a record with N n: as long as their E says
pub record RecordOf (n : ℕ) (m : List ℕ) : Type 0 where
  pub nodes : nodes_in m ≡ n
  pub size : length m ≡ 4 * (2 + 2 * size_in m)

-- ---- its list of moves

pub record Entry : Type 0 where
  pub route : ℕ
  pub count : ℕ

abbrev pub route_of : Entry → ℕ
route_of e = e.route

abbrev pub count_of : Entry → ℕ
count_of e = e.count

-- the pairs of two parallel arrays
unfoldable pub entries : List ℕ → List ℕ → List Entry
entries [] counts = []
entries (r ∷ routes) [] = []
entries (r ∷ routes) (k ∷ counts) = record { route = r; count = k } ∷ entries routes counts

abbrev pub entries_in : List ℕ → List Entry
entries_in m = entries (routes_in m) (counts_in m)

-- ---- two lists

-- "divide the moves, their order kept, into any two lists": each move of the whole, in turn, is the next of the one or of the other
pub data Merge : List Entry → List Entry → List Entry → Type 0 where
  none : Merge [] [] []
  first : {e : Entry} {whole a b : List Entry} → Merge whole a b → Merge (e ∷ whole) (e ∷ a) b
  second : {e : Entry} {whole a b : List Entry} → Merge whole a b → Merge (e ∷ whole) a (e ∷ b)

-- "whose subdomains are disjoint": no subdomain occurs in both
abbrev pub Disjoint : List ℕ → List ℕ → Type 0
Disjoint a b =
    (i j : ℕ) → i < length (routes_in a) → j < length (routes_in b)
    → subdomain (get_or (routes_in a) i 0) ≢ subdomain (get_or (routes_in b) j 0)

-- records a and b are two such parts of the moves `whole`, beside the sheet s
pub record Parts (s whole a b : List ℕ) : Type 0 where
  pub sheet : (read_sheet s).refusal ≡ 0
  pub moves : (read_moves whole).refusal ≡ 0
  pub nodes : (read_sheet s).n ≡ (read_moves whole).n
  pub first : RecordOf (read_moves whole).n a
  pub second : RecordOf (read_moves whole).n b
  pub merge : Merge (entries_in whole) (entries_in a) (entries_in b)
  pub disjoint : Disjoint a b

-- ---- "The message library would like to send some subdomains early": the part with the subdomains of a set

-- the moves whose subdomain is in the set, in their order
unfoldable pub chosen : (ℕ → Bool) → List Entry → List Entry
chosen set [] = []
chosen set (e ∷ es) =
    let rest = chosen set es in
    cond (set (subdomain e.route)) (e ∷ rest) rest

-- as a record with the N of m
abbrev pub part_of : (ℕ → Bool) → List ℕ → List ℕ
part_of set m =
    let es = chosen set (entries_in m) in
    moves_bytes (nodes_in m) (length es) (map route_of es) (map count_of es)

-- all other subdomains
abbrev pub others : (ℕ → Bool) → ℕ → Bool
others set n = not (set n)
