-- The moves of one subdomain: there are fewer than N, their routes rise and are fine, their counts are fine, and each node sends
-- its surplus and receives its shortage. Each law is one induction over the turns. With S k the surplus of the senders below k, a turn
-- that begins when p particles have moved leaves sender k with what [S k, S (k+1)) has beyond p; receivers likewise. Assumes nothing.
use mathlib.Core.Path.{◌≡◌, refl, sym, ap, ◌∙◌}
use mathlib.Core.Logic.{◌≢◌, ◌⊎◌, ⊎_elim}
use mathlib.Core.Bool.{true}
use mathlib.Core.List.{List, [], ◌∷◌, map}
use Prim.Native.Nat.{ℕ, zero, suc, ◌+◌, ◌-◌, ◌*◌, ◌≤◌, ◌<◌, min, max}
use native.Mathlib.Decide.{ℕ_discrete, dec_lt}
use native.Mathlib.Omega.{arith}
use borrow.Author.Tests.{lt-ltb, le-ltb}
use lib.Dec.{ltb}
use lib.ListN.{length, get_or}
use Rattle.sheet.specs.Sheet.{cell}
use Rattle.fold.specs.Sum.{only, sum}
use Rattle.fold.specs.All.{every}
use Rattle.fold.specs.Rising.{rising}
use Rattle.fold.proofs.Tests.{only-is, only-not, only-max, every_more}
use Rattle.fold.proofs.Sums.{sum-none, sum_more, sum_fewer, sum-add, sum-le, sum_const}
use Rattle.fold.proofs.Lists.{rising_none, rising_more, rising-from}
use Rattle.limit.specs.Limit.{max_nodes, max_total, table_size}
use Rattle.moves.specs.Moves.{route, subdomain, route_fine, count_fine}
use Rattle.moves.proofs.Laws.{route-subdomain, route-sender, route-receiver, route_of_lem, count_of_lem}
use Rattle.transfer.specs.Matching.{Move, surplus_of, shortage_of, matched, moves_between, route_of, count_of}
use Rattle.transfer.specs.Apply.{from_cell, into_cell, moved, sends, receives}
use Rattle.transfer.proofs.Turns.{Turn, turn-by-turn}
use Rattle.transfer.proofs.Ends.{moved_none, moved_here, moved_other}

-- ---- prefix sums

-- what [S k, S (k+1)) has beyond p
abbrev beyond : (ℕ → ℕ) → ℕ → ℕ → ℕ
beyond f k p = sum (k + 1) f - max (sum k f) p

module _ (f : ℕ → ℕ) (k i x m : ℕ) (fits : x + m ≤ f i) where
  beyond-here : k ≡ i → m + beyond f k (sum i f + x + m) ≡ beyond f k (sum i f + x)
  beyond-here e = rw e (omega (arith, sum_more i f))

  beyond-other : k ≢ i → beyond f k (sum i f + x + m) ≡ beyond f k (sum i f + x)
  beyond-other d = elim (dec_lt k i) [
    | yes l ↦ omega (arith, sum_fewer (k + 1) i f (omega arith))
    | no g ↦ omega (arith, sum_more i f, sum_fewer (i + 1) k f (omega (arith, g, d)))
  ]

-- how many numbers below n have an amount
abbrev filled_below : (ℕ → ℕ) → ℕ → ℕ
filled_below f n = sum n (λ k. only (ltb 0 (f k)) 1)

filled-one : (f : ℕ → ℕ) (n : ℕ) → 0 < f n → filled_below f (n + 1) ≡ filled_below f n + 1
filled-one f n h = omega (arith, sum_more n (λ k. only (ltb 0 (f k)) 1), only-is (ltb 0 (f n)) 1 (lt-ltb 0 (f n) h))

filled_up : (f : ℕ → ℕ) (a b : ℕ) → a ≤ b → filled_below f a ≤ filled_below f b
filled_up f a b = sum_fewer a b (λ k. only (ltb 0 (f k)) 1)

module _ (nodes : ℕ) (surplus shortage : ℕ → ℕ) where
  -- the whole list
  abbrev all : List Move
  all = matched nodes surplus shortage (2 * nodes) 0 0 0 0

  -- no node has both a surplus and a shortage
  module _ (apart : (k : ℕ) → min (surplus k) (shortage k) ≡ 0) where
    -- each move is done with a sender or with a receiver, and the last one with both
    left : ℕ → ℕ → ℕ
    left s r = (filled_below surplus nodes - filled_below surplus s) + (filled_below shortage nodes - filled_below shortage r) - 1

    few-left : (turns s sent r got : ℕ) → sent ≤ surplus s → got ≤ shortage r → 2 * nodes ≤ turns + (s + r)
        → length (matched nodes surplus shortage turns s sent r got) ≤ left s r
    unfolding left
    few-left =
        turn-by-turn nodes surplus shortage (λ s sent r got l. length l ≤ left s r)
        (λ s sent r got e. omega arith)
        (λ s sent r got m s' sent' r' got' rest t e p. ⊎_elim
        (λ w. omega (arith, p, filled_up surplus s s' (omega (arith, w)), ap (filled_below shortage) w.1))
        (λ w. omega (arith, p, filled_up shortage r r' (omega (arith, w)), ap (filled_below surplus) w.0))
        t.next)
        (λ s sent r got m s' sent' r' got' rest t h p.
        let es = filled-one surplus s (omega (arith, t.surplus_le)) in
        let er = filled-one shortage r (omega (arith, t.shortage_le)) in
        let us = filled_up surplus (s + 1) nodes (omega (arith, t.s_lt)) in
        let ur = filled_up shortage (r + 1) nodes (omega (arith, t.r_lt)) in
        ⊎_elim
        (λ w. omega (arith, p, es, er, us, ur, ap (filled_below surplus) w.0, ap (filled_below shortage) w.1))
        (λ w. omega (arith, p, es, er, us, ur, ap (filled_below surplus) w.0, ap (filled_below shortage) w.1))
        t.next)

    both_few : filled_below surplus nodes + filled_below shortage nodes ≤ nodes
    both_few =
        omega (
          arith,
          sum-add nodes (λ k. only (ltb 0 (surplus k)) 1) (λ k. only (ltb 0 (shortage k)) 1),
          sum-le nodes (λ k. only (ltb 0 (surplus k)) 1 + only (ltb 0 (shortage k)) 1) (λ k. 1) (λ k l. one k),
          sum_const nodes 1,
        )
      where
        one : (k : ℕ) → only (ltb 0 (surplus k)) 1 + only (ltb 0 (shortage k)) 1 ≤ 1
        one k = elim (dec_lt 0 (surplus k)) [
          | yes h ↦
              omega
              (arith, only-max (ltb 0 (surplus k)) 1, only-not (ltb 0 (shortage k)) 1 (le-ltb 0 (shortage k) (omega (arith, apart k))))
          | no d ↦ omega (arith, only-max (ltb 0 (shortage k)) 1, only-not (ltb 0 (surplus k)) 1 (le-ltb 0 (surplus k) (omega (arith, d))))
        ]

    pub few : length all ≤ nodes - 1
    unfolding left
    few = omega (arith, both_few, few-left (2 * nodes) 0 0 0 0 (omega arith) (omega arith) (omega arith))

    -- routes rise from the present pair on, and are fine
    module _ (n : ℕ) (hn : n < nodes) (h64 : nodes ≤ max_nodes) where
      route_fine_lem : (m : Move) → m.sender < nodes → m.receiver < nodes → m.sender ≢ m.receiver → route_fine nodes (route_of n m) ≡ true
      route_fine_lem m hs hr d =
          let bs : m.sender < 64 = omega arith in
          let br : m.receiver < 64 = omega arith in
          let es = route-sender n m.sender m.receiver bs br in
          let er = route-receiver n m.sender m.receiver bs br in
          route_of_lem nodes (route_of n m)
          (record {
            subdomain_below = omega (arith, route-subdomain n m.sender m.receiver bs br);
            sender_below = omega (arith, es);
            receiver_below = omega (arith, er);
            apart = λ q. d (sym es ∙ q ∙ er);
          })

      rise : (turns s sent r got : ℕ) → sent ≤ surplus s → got ≤ shortage r → 2 * nodes ≤ turns + (s + r)
          → rising (route_fine nodes) (route n s r) (map (route_of n) (matched nodes surplus shortage turns s sent r got)) ≡ true
      rise =
          turn-by-turn nodes surplus shortage (λ s sent r got l. rising (route_fine nodes) (route n s r) (map (route_of n) l) ≡ true)
          (λ s sent r got e. rising_none (route_fine nodes) (route n s r))
          (λ s sent r got m s' sent' r' got' rest t e p.
          rising-from (route_fine nodes) (route n s' r') (route n s r) (map (route_of n) rest)
          (⊎_elim (λ w. omega (arith, w)) (λ w. omega (arith, w)) t.next) p)
          (λ s sent r got m s' sent' r' got' rest t h p.
          let there = route n s r in
          let fine =
          route_fine_lem (record { sender = s; receiver = r; count = m }) t.s_lt t.r_lt
          (λ q. omega (arith, apart s, t.surplus_le, t.shortage_le, ap shortage q)) in
          rising_more (route_fine nodes) there there (map (route_of n) rest) (omega arith) fine
          ∙ rising-from (route_fine nodes) (route n s' r') (there + 1) (map (route_of n) rest)
          (⊎_elim (λ w. omega (arith, w)) (λ w. omega (arith, w)) t.next) p)

      pub routes-rise : rising (route_fine nodes) (n * table_size) (map (route_of n) all) ≡ true
      routes-rise =
          let low : route n 0 0 ≡ n * table_size = omega arith in
          rw low at (rise (2 * nodes) 0 0 0 0 (omega arith) (omega arith) (omega arith))

  -- each count is some sender's, and not 0
  counts-every : (most : (k : ℕ) → k < nodes → surplus k ≤ max_total) → (turns s sent r got : ℕ) → sent ≤ surplus s → got ≤ shortage r
      → 2 * nodes ≤ turns + (s + r)
      → every count_fine (map count_of (matched nodes surplus shortage turns s sent r got)) ≡ true
  counts-every most =
      turn-by-turn nodes surplus shortage (λ s sent r got l. every count_fine (map count_of l) ≡ true)
      (λ s sent r got e. unfold every in refl)
      (λ s sent r got m s' sent' r' got' rest t e p. p)
      (λ s sent r got m s' sent' r' got' rest t h p.
      every_more count_fine m (map count_of rest) (count_of_lem m (record { low = h; high = omega (arith, most s t.s_lt, t.surplus_le) }))
      ∙ p)

  pub counts_fine_lem : ((k : ℕ) → k < nodes → surplus k ≤ max_total) → every count_fine (map count_of all) ≡ true
  counts_fine_lem most = counts-every most (2 * nodes) 0 0 0 0 (omega arith) (omega arith) (omega arith)

  -- each route is in the subdomain
  module _ (n : ℕ) (h64 : nodes ≤ max_nodes) where
    abbrev In : List Move → Type 0
    In l = (i : ℕ) → i < length (map (route_of n) l) → subdomain (get_or (map (route_of n) l) i 0) ≡ n

    routes-at : (turns s sent r got : ℕ) → sent ≤ surplus s → got ≤ shortage r → 2 * nodes ≤ turns + (s + r)
        → In (matched nodes surplus shortage turns s sent r got)
    routes-at =
        turn-by-turn nodes surplus shortage (λ s sent r got l. In l)
        (λ s sent r got e i l. absurd (omega arith))
        (λ s sent r got m s' sent' r' got' rest t e p. p)
        (λ s sent r got m s' sent' r' got' rest t h p. at_first s r m rest (omega (arith, t.s_lt)) (omega (arith, t.r_lt)) p)
      where
        at_first : (s r m : ℕ) (rest : List Move) → s < 64 → r < 64 → In rest → In (record { sender = s; receiver = r; count = m } ∷ rest)
        at_first s r m rest hs hr p zero l = route-subdomain n s r hs hr
        at_first s r m rest hs hr p (suc i) l = p i (omega arith)

    pub routes_in : In all
    routes_in = routes-at (2 * nodes) 0 0 0 0 (omega arith) (omega arith) (omega arith)

  -- ---- what a node sends and receives

  module _ (equal : sum nodes surplus ≡ sum nodes shortage) (n k : ℕ) (h64 : nodes ≤ max_nodes) (hn : n < 64) (hk : k < nodes) where
    -- where p particles have moved, the sender and the receiver of p have so much left to send and to receive
    abbrev LeftOver : ℕ → ℕ → ℕ → ℕ → List Move → Type 0
    LeftOver s sent r got l =
        sum s surplus + sent ≡ sum r shortage + got
        → (sends (map (route_of n) l) (map count_of l) (cell k n) ≡ beyond surplus k (sum s surplus + sent))
        × (receives (map (route_of n) l) (map count_of l) (cell k n) ≡ beyond shortage k (sum r shortage + got))

    left-stop : (s sent r got : ℕ) → (nodes ≤ s) ⊎ (nodes ≤ r) → LeftOver s sent r got []
    left-stop s sent r got h q =
        let us = sum_fewer (k + 1) nodes surplus (omega arith) in
        let ur = sum_fewer (k + 1) nodes shortage (omega arith) in
        let p : sum nodes surplus ≤ sum s surplus + sent =
        ⊎_elim (λ l. omega (arith, sum_fewer nodes s surplus l)) (λ l. omega (arith, sum_fewer nodes r shortage l)) h in
        (omega (arith, moved_none from_cell [] (cell k n)), omega (arith, moved_none into_cell [] (cell k n)))

    -- one move more, seen at either end: f is what its nodes have to move, and i has moved x of its own before
    end_moved : (end : ℕ → ℕ) (f : ℕ → ℕ) (i x m after route : ℕ) (routes counts : List ℕ) → end route ≡ cell i n → x + m ≤ f i
        → after ≡ sum i f + x + m
        → moved end routes counts (cell k n) ≡ beyond f k after
        → moved end (route ∷ routes) (m ∷ counts) (cell k n) ≡ beyond f k (sum i f + x)
    end_moved end f i x m after route routes counts e fits is ih = elim (ℕ_discrete k i) [
      | yes q ↦
          moved_here end route m routes counts (cell k n) (omega (arith, e)) ∙ ap (λ (y : ℕ). m + y) (rw is at ih)
          ∙ beyond-here f k i x m fits q
      | no d ↦
          moved_other end route m routes counts (cell k n) (λ z. d (omega (arith, e))) ∙ rw is at ih ∙ beyond-other f k i x m fits d
    ]

    left-move : (s sent r got m s' sent' r' got' : ℕ) (rest : List Move) → Turn nodes surplus shortage s sent r got m s' sent' r' got'
        → LeftOver s' sent' r' got' rest → LeftOver s sent r got (record { sender = s; receiver = r; count = m } ∷ rest)
    left-move s sent r got m s' sent' r' got' rest t p q =
        let ih = p (omega (arith, t.sends, t.gets)) in
        let hs : s < 64 = omega (arith, t.s_lt) in
        let hr : r < 64 = omega (arith, t.r_lt) in
        let ed = route-subdomain n s r hs hr in (
          end_moved from_cell surplus s sent m (sum s' surplus + sent') (route n s r) (map (route_of n) rest) (map count_of rest)
              (rw (route-sender n s r hs hr, ed)) t.surplus_le t.sends ih.0,
          end_moved into_cell shortage r got m (sum r' shortage + got') (route n s r) (map (route_of n) rest) (map count_of rest)
              (rw (route-receiver n s r hs hr, ed)) t.shortage_le t.gets ih.1,
        )

    left-all : LeftOver 0 0 0 0 all
    left-all =
        turn-by-turn nodes surplus shortage LeftOver left-stop
        (λ s sent r got m s' sent' r' got' rest t e p q.
        let ih = p (omega (arith, t.sends, t.gets)) in
        (omega (arith, ih.0, t.sends), omega (arith, ih.1, t.gets)))
        (λ s sent r got m s' sent' r' got' rest t h. left-move s sent r got m s' sent' r' got' rest t)
        (2 * nodes) 0 0 0 0 (omega arith) (omega arith) (omega arith)

    -- each node sends its surplus, and receives its shortage
    pub sends-surplus : sends (map (route_of n) all) (map count_of all) (cell k n) ≡ surplus k
    sends-surplus = omega (arith, (left-all (omega (arith, sum-none surplus, sum-none shortage))).0, sum-none surplus, sum_more k surplus)

    pub receives-shortage : receives (map (route_of n) all) (map count_of all) (cell k n) ≡ shortage k
    receives-shortage =
        omega (arith, (left-all (omega (arith, sum-none surplus, sum-none shortage))).1, sum-none shortage, sum_more k shortage)

-- ---- surplus and shortage of holdings and due amounts

pub surplus-apart : (holding due : ℕ) → min (surplus_of holding due) (shortage_of holding due) ≡ 0
surplus-apart holding due = omega arith

pub moves-few : (nodes : ℕ) (holding due : ℕ → ℕ) → length (moves_between nodes holding due) ≤ nodes - 1
moves-few nodes holding due =
    few nodes (λ k. surplus_of (holding k) (due k)) (λ k. shortage_of (holding k) (due k)) (λ k. surplus-apart (holding k) (due k))
