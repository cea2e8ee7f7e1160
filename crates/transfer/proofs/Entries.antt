-- Moves added to a list, some of them and then the rest: what the list holds in the end is what it holds now with the rest behind it.
-- Assumes nothing.
use mathlib.Core.Path.{◌≡◌, refl, sym, ap, ◌∙◌}
use mathlib.Core.Logic.{◌⊎◌, inl}
use mathlib.Core.List.{List, [], ◌++◌, append-nil, append_assoc, map, map-append}
use Prim.Native.Nat.{ℕ, ◌+◌, ◌-◌, ◌*◌, ◌≤◌, ◌<◌, min}
use native.Mathlib.Decide.{dec_le}
use native.Mathlib.Omega.{arith}
use lib.ListN.{length, length-append, length-map}
use Rattle.transfer.specs.Matching.{Move, move_of, matched, route_of, count_of}
use Rattle.transfer.proofs.Next.{NextFrom}
use Rattle.transfer.proofs.Turns.{turn-stop, rest-sender, rest-receiver, rest, senders_passed, receivers_passed}

-- `rest` is left of `whole`, which began behind routes₀ and counts₀
pub record MovesLeft (n : ℕ) (routes₀ counts₀ : List ℕ) (whole : List Move) (routes counts : List ℕ) (rest : List Move) : Type 0 where
  pub routes_left : routes ++ map (route_of n) rest ≡ routes₀ ++ map (route_of n) whole
  pub counts_left : counts ++ map count_of rest ≡ counts₀ ++ map count_of whole

module _ {n : ℕ} {routes₀ counts₀ : List ℕ} {whole : List Move} where
  left-all : MovesLeft n routes₀ counts₀ whole routes₀ counts₀ whole
  left-all = record { routes_left = refl; counts_left = refl }

  -- a part of it is added
  left-part : {routes counts : List ℕ} (part rest : List Move) {routes' counts' : List ℕ}
      → MovesLeft n routes₀ counts₀ whole routes counts (part ++ rest)
      → routes' ≡ routes ++ map (route_of n) part → counts' ≡ counts ++ map count_of part
      → MovesLeft n routes₀ counts₀ whole routes' counts' rest
  left-part {routes} {counts} part rest l er ec =
      record {
        routes_left = rw er (behind (route_of n) routes ∙ l.routes_left);
        counts_left = rw ec (behind count_of counts ∙ l.counts_left);
      }
    where
      behind : (f : Move → ℕ) (xs : List ℕ) → (xs ++ map f part) ++ map f rest ≡ xs ++ map f (part ++ rest)
      behind f xs = append_assoc xs (map f part) (map f rest) ∙ ap (λ (ys : List ℕ). xs ++ ys) (sym (map-append f part rest))

  -- nothing is left
  left-none : {routes counts : List ℕ} → MovesLeft n routes₀ counts₀ whole routes counts []
      → (routes ≡ routes₀ ++ map (route_of n) whole) × (counts ≡ counts₀ ++ map count_of whole)
  left-none {routes} {counts} l = (sym (append-nil routes) ∙ l.routes_left, sym (append-nil counts) ∙ l.counts_left)

  -- what is added and what is left are as many as there were to add
  left-length : {routes counts : List ℕ} {rest : List Move} → MovesLeft n routes₀ counts₀ whole routes counts rest
      → length routes + length rest ≡ length routes₀ + length whole
  left-length {routes} {counts} {rest} l =
      omega (
        arith,
        ap length l.routes_left,
        length-append routes (map (route_of n) rest),
        length-append routes₀ (map (route_of n) whole),
        length-map rest (route_of n),
        length-map whole (route_of n),
      )

-- ---- a turn of the matching: the moves of the remaining turns are what is left

-- sender s can still send `left` and receiver r still lacks `missing`
pub record Pending (nodes : ℕ) (surplus shortage : ℕ → ℕ) (n : ℕ) (routes₀ counts₀ : List ℕ) (whole : List Move)
    (routes counts : List ℕ) (s left r missing : ℕ) : Type 0 where
  pub sent : ℕ
  pub got : ℕ
  pub s_le : s ≤ nodes
  pub r_le : r ≤ nodes
  pub left_is : s < nodes → sent + left ≡ surplus s
  pub missing_is : r < nodes → got + missing ≡ shortage r
  pub moves : MovesLeft n routes₀ counts₀ whole routes counts (rest nodes surplus shortage s sent r got)

module _ {nodes : ℕ} (surplus shortage : ℕ → ℕ) where
  -- the next sender, and the next receiver, have the same moves before them
  to-sender : {s s' count : ℕ} (r got : ℕ) → r < nodes → NextFrom nodes surplus s s' count
      → rest nodes surplus shortage s 0 r got ≡ rest nodes surplus shortage s' 0 r got
  to-sender {s} {s'} r got hr x =
      let q : s + (s' - s) ≡ s' = omega (arith, x.from_le) in
      rw q at (senders_passed nodes surplus shortage (s' - s) s r got (omega (arith, x.from_le, x.to_le)) hr
      (λ k a b. x.none k a (omega (arith, x.from_le))))

  to-receiver : (s sent : ℕ) {r r' count : ℕ} → (s < nodes → 0 < surplus s - sent) → NextFrom nodes shortage r r' count
      → rest nodes surplus shortage s sent r 0 ≡ rest nodes surplus shortage s sent r' 0
  to-receiver s sent {r} {r'} h x = elim (dec_le nodes s) [
    | yes l ↦
        turn-stop nodes surplus shortage (2 * nodes - (s + r)) s sent r 0 (inl l)
        ∙ sym (turn-stop nodes surplus shortage (2 * nodes - (s + r')) s sent r' 0 (inl l))
    | no d ↦
        let hs : s < nodes = omega (arith, d) in
        let q : r + (r' - r) ≡ r' = omega (arith, x.from_le) in
        rw q at (receivers_passed nodes surplus shortage (r' - r) s sent r hs (h hs) (omega (arith, x.from_le, x.to_le))
        (λ k a b. x.none k a (omega (arith, x.from_le))))
  ]

module _ {nodes : ℕ} {surplus shortage : ℕ → ℕ} where
  pub begin : {n : ℕ} {routes counts : List ℕ} {s left r missing : ℕ} → 0 < nodes → NextFrom nodes surplus 0 s left
      → NextFrom nodes shortage 0 r missing
      → Pending nodes surplus shortage n routes counts
      (matched nodes surplus shortage (2 * nodes) 0 0 0 0) routes counts s left r missing
  begin {s = s} {r = r} some x y =
      let z : 2 * nodes - 0 ≡ 2 * nodes = omega arith in
      let all : matched nodes surplus shortage (2 * nodes) 0 0 0 0 ≡ rest nodes surplus shortage 0 0 0 0 = rw z in
      let q : matched nodes surplus shortage (2 * nodes) 0 0 0 0 ≡ rest nodes surplus shortage s 0 r 0 =
      all ∙ to-sender surplus shortage 0 0 some x ∙ to-receiver surplus shortage s 0 (λ h. omega (arith, x.some h)) y in
      record {
        sent = 0;
        got = 0;
        s_le = x.to_le;
        r_le = y.to_le;
        left_is = λ h. omega (arith, x.is h);
        missing_is = λ h. omega (arith, y.is h);
        moves = rw q left-all;
      }

  module _ {n : ℕ} {routes₀ counts₀ : List ℕ} {whole : List Move} {routes counts : List ℕ} {s left r missing : ℕ}
      (p : Pending nodes surplus shortage n routes₀ counts₀ whole routes counts s left r missing) where
    pub finish : (nodes ≤ s) ⊎ (nodes ≤ r)
        → (routes ≡ routes₀ ++ map (route_of n) whole) × (counts ≡ counts₀ ++ map count_of whole)
    finish h =
        left-none (rw (turn-stop nodes surplus shortage (2 * nodes - (s + r)) s p.sent r p.got h) at p.moves)

    module _ (hs : s < nodes) (hr : r < nodes) {v : ℕ} (is : v ≡ min left missing) where
      is-pair : v ≡ min (surplus s - p.sent) (shortage r - p.got)
      is-pair = omega (arith, p.left_is hs, p.missing_is hr)

      sender-rest : left ≤ missing
          → rest nodes surplus shortage s p.sent r p.got ≡ move_of s r v ++ rest nodes surplus shortage (s + 1) 0 r (p.got + v)
      sender-rest h =
          rw is-pair (rest-sender nodes surplus shortage s p.sent r p.got hs hr (omega (arith, p.left_is hs, p.missing_is hr)))

      receiver-rest : missing < left
          → rest nodes surplus shortage s p.sent r p.got ≡ move_of s r v ++ rest nodes surplus shortage s (p.sent + v) (r + 1) 0
      receiver-rest h =
          rw is-pair (rest-receiver nodes surplus shortage s p.sent r p.got hs hr (omega (arith, p.left_is hs, p.missing_is hr)))

      -- there is room for the pair's move
      pub room : length routes + length (move_of s r v) ≤ length routes₀ + length whole
      room = elim (dec_le left missing) [
        | yes h ↦ fits (rest nodes surplus shortage (s + 1) 0 r (p.got + v)) (sender-rest h)
        | no d ↦ fits (rest nodes surplus shortage s (p.sent + v) (r + 1) 0) (receiver-rest (omega (arith, d)))
      ]
        where
          fits : (l : List Move) → rest nodes surplus shortage s p.sent r p.got ≡ move_of s r v ++ l
              → length routes + length (move_of s r v) ≤ length routes₀ + length whole
          fits l q = omega (arith, left-length p.moves, ap length q, length-append (move_of s r v) l)

      module _ {routes' counts' : List ℕ}
          (er : routes' ≡ routes ++ map (route_of n) (move_of s r v))
          (ec : counts' ≡ counts ++ map count_of (move_of s r v)) where
        -- the moves that are left behind the pair's
        behind : (l l' : List Move) → rest nodes surplus shortage s p.sent r p.got ≡ move_of s r v ++ l → l ≡ l'
            → MovesLeft n routes₀ counts₀ whole routes' counts' l'
        behind l l' q same =
            rw (← same) (left-part (move_of s r v) l (rw q at p.moves) er ec)

        pub sender-next : left ≤ missing → {s' left' : ℕ} → NextFrom nodes surplus (s + 1) s' left'
            → Pending nodes surplus shortage n routes₀ counts₀ whole routes' counts' s' left' r (missing - v)
        sender-next h {s'} x =
            record {
              sent = 0;
              got = p.got + v;
              s_le = x.to_le;
              r_le = p.r_le;
              left_is = λ l. omega (arith, x.is l);
              missing_is = λ l. omega (arith, p.missing_is hr);
              moves =
                  behind (rest nodes surplus shortage (s + 1) 0 r (p.got + v)) (rest nodes surplus shortage s' 0 r (p.got + v))
                  (sender-rest h) (to-sender surplus shortage r (p.got + v) hr x);
            }

        pub receiver-next : missing < left → {r' missing' : ℕ} → NextFrom nodes shortage (r + 1) r' missing'
            → Pending nodes surplus shortage n routes₀ counts₀ whole routes' counts' s (left - v) r' missing'
        receiver-next h {r'} y =
            record {
              sent = p.sent + v;
              got = 0;
              s_le = p.s_le;
              r_le = y.to_le;
              left_is = λ l. omega (arith, p.left_is hs);
              missing_is = λ l. omega (arith, y.is l);
              moves =
                  behind (rest nodes surplus shortage s (p.sent + v) (r + 1) 0) (rest nodes surplus shortage s (p.sent + v) r' 0)
                  (receiver-rest h)
                  (to-receiver surplus shortage s (p.sent + v) (λ l. omega (arith, p.left_is hs)) y);
            }
