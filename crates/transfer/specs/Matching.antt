-- Document 01, 'Moves': who sends how many particles to whom, in one subdomain and then in all of them.
use Rattle.std.specs.Prelude.{ℕ, zero, suc, ◌+◌, ◌-◌, ◌*◌, min, List, [], ◌∷◌, ◌++◌, map, cond, ◌&&◌, ltb, leb, eqb}
use Rattle.fold.specs.Collect.{collect}
use Rattle.sheet.specs.Table.{held}
use Rattle.moves.specs.Moves.{route}

-- "Each node keeps the smaller of holding and due amount. Nodes with a surplus send, nodes with a shortage receive."
abbrev pub surplus_of : ℕ → ℕ → ℕ
surplus_of holding due = holding - min holding due

abbrev pub shortage_of : ℕ → ℕ → ℕ
shortage_of holding due = due - min holding due

-- ---- one subdomain

pub record Move : Type 0 where
  pub sender : ℕ
  pub receiver : ℕ
  pub count : ℕ

-- "No zero move is written."
abbrev pub move_of : ℕ → ℕ → ℕ → List Move
move_of s r m = cond (eqb m 0) [] (record { sender = s; receiver = r; count = m } ∷ [])

-- "Both are gone through by rising number, and each pair moves the smaller of what remains." The moves from sender s on, which has
-- sent so much, to receivers from r on, which has got so much. After each pair the one with nothing left is done: the sender, or
-- else the receiver; so a node without a surplus or a shortage is passed, and 2 × N turns are enough.
unfoldable pub matched : ℕ → (ℕ → ℕ) → (ℕ → ℕ) → ℕ → ℕ → ℕ → ℕ → ℕ → List Move
matched nodes surplus shortage zero s sent r got = []
matched nodes surplus shortage (suc turns) s sent r got =
    let left = surplus s - sent in
    let missing = shortage r - got in
    let m = min left missing in
    let nextSender = matched nodes surplus shortage turns (s + 1) 0 r (got + m) in
    let nextReceiver = matched nodes surplus shortage turns s (sent + m) (r + 1) 0 in
    let rest = cond (leb left missing) nextSender nextReceiver in
    let moves = move_of s r m ++ rest in
    cond (ltb s nodes && ltb r nodes) moves []

-- the moves of a subdomain, from what each node holds of it and what it is due
abbrev pub moves_between : ℕ → (ℕ → ℕ) → (ℕ → ℕ) → List Move
moves_between nodes holding due =
    matched nodes (λ k. surplus_of (holding k) (due k)) (λ k. shortage_of (holding k) (due k)) (2 * nodes) 0 0 0 0

-- ---- all subdomains, from a table of counts and what is due of each subdomain to each node

-- the route of a move of subdomain n
abbrev pub route_of : ℕ → Move → ℕ
route_of n m = route n m.sender m.receiver

abbrev pub count_of : Move → ℕ
count_of m = m.count

abbrev pub subdomain_moves : ℕ → List ℕ → (ℕ → ℕ → ℕ) → ℕ → List Move
subdomain_moves nodes table due n = moves_between nodes (λ k. held table k n) (due n)

-- the routes and the counts of all moves, "by rising subdomain"
abbrev pub all_routes : ℕ → List ℕ → (ℕ → ℕ → ℕ) → List ℕ
all_routes nodes table due = collect nodes (λ n. map (route_of n) (subdomain_moves nodes table due n))

abbrev pub all_counts : ℕ → List ℕ → (ℕ → ℕ → ℕ) → List ℕ
all_counts nodes table due = collect nodes (λ n. map count_of (subdomain_moves nodes table due n))
