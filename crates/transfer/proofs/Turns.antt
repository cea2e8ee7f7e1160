-- The turns of `matched`, one law for each way that a turn can go, and one induction over all turns: what holds when the turns end,
-- and holds before a turn where it holds after it, holds of the whole list. Assumes nothing.
use mathlib.Core.Path.{◌≡◌, refl, sym, ◌∙◌}
use mathlib.Core.Logic.{◌⊎◌, inl, inr}
use mathlib.Core.Bool.{and-false}
use mathlib.Core.List.{List, [], ◌∷◌, ◌++◌}
use Prim.Native.Nat.{ℕ, zero, suc, ◌+◌, ◌-◌, ◌*◌, ◌≤◌, ◌<◌, min}
use native.Mathlib.Nat.{add-zero}
use native.Mathlib.Decide.{ℕ_discrete, dec_le}
use native.Mathlib.Omega.{arith}
use borrow.Author.Tests.{lt-ltb, le-ltb, le-leb, lt-leb, eq-eqb, ne_eqb}
use Rattle.fold.specs.Sum.{sum}
use Rattle.fold.proofs.Sums.{sum_more}
use Rattle.transfer.specs.Matching.{Move, move_of, matched}

module _ (nodes : ℕ) (surplus shortage : ℕ → ℕ) where
  -- what sender s can still send, what receiver r still lacks, and what the pair moves
  abbrev pub pair : ℕ → ℕ → ℕ → ℕ → ℕ
  pair s sent r got = min (surplus s - sent) (shortage r - got)

  module _ (turns s sent r got : ℕ) where
    pub turn-sender : s < nodes → r < nodes → surplus s - sent ≤ shortage r - got
        → matched nodes surplus shortage (suc turns) s sent r got
        ≡ move_of s r (pair s sent r got) ++ matched nodes surplus shortage turns (s + 1) 0 r (got + pair s sent r got)
    unfolding matched
    turn-sender hs hr h = rw (lt-ltb s nodes hs, lt-ltb r nodes hr, le-leb (surplus s - sent) (shortage r - got) h)

    pub turn-receiver : s < nodes → r < nodes → shortage r - got < surplus s - sent
        → matched nodes surplus shortage (suc turns) s sent r got
        ≡ move_of s r (pair s sent r got) ++ matched nodes surplus shortage turns s (sent + pair s sent r got) (r + 1) 0
    unfolding matched
    turn-receiver hs hr h = rw (lt-ltb s nodes hs, lt-ltb r nodes hr, lt-leb (surplus s - sent) (shortage r - got) h)

  pub turn-stop : (turns s sent r got : ℕ) → (nodes ≤ s) ⊎ (nodes ≤ r) → matched nodes surplus shortage turns s sent r got ≡ []
  unfolding matched
  turn-stop zero s sent r got h = refl
  turn-stop (suc turns) s sent r got (inl h) = rw (le-ltb s nodes h)
  turn-stop (suc turns) s sent r got (inr h) = rw (le-ltb r nodes h, and-false)

  -- the same with the turns that are left of 2 × N where s and r are reached
  module _ (s sent r got : ℕ) (hs : s < nodes) (hr : r < nodes) where
    pub rest-sender : surplus s - sent ≤ shortage r - got
        → matched nodes surplus shortage (2 * nodes - (s + r)) s sent r got
        ≡ move_of s r (pair s sent r got) ++ matched nodes surplus shortage (2 * nodes - (s + 1 + r)) (s + 1) 0 r (got + pair s sent r got)
    rest-sender h =
        let e : 2 * nodes - (s + r) ≡ suc (2 * nodes - (s + 1 + r)) = omega arith in
        rw e (turn-sender (2 * nodes - (s + 1 + r)) s sent r got hs hr h)

    pub rest-receiver : shortage r - got < surplus s - sent
        → matched nodes surplus shortage (2 * nodes - (s + r)) s sent r got
        ≡ move_of s r (pair s sent r got) ++ matched nodes surplus shortage (2 * nodes - (s + (r + 1))) s (sent + pair s sent r got)
        (r + 1) 0
    rest-receiver h =
        let e : 2 * nodes - (s + r) ≡ suc (2 * nodes - (s + (r + 1))) = omega arith in
        rw e (turn-receiver (2 * nodes - (s + (r + 1))) s sent r got hs hr h)

  -- the moves of the turns that are left of 2 × N where s and r are reached
  abbrev pub rest : ℕ → ℕ → ℕ → ℕ → List Move
  rest s sent r got = matched nodes surplus shortage (2 * nodes - (s + r)) s sent r got

  -- ---- nodes without a surplus or a shortage are passed

  pub senders_passed : (d s r got : ℕ) → s + d ≤ nodes → r < nodes → ((k : ℕ) → s ≤ k → k < s + d → surplus k ≡ 0)
      → rest s 0 r got ≡ rest (s + d) 0 r got
  senders_passed zero s r got h hr z = rw (add-zero s)
  senders_passed (suc d) s r got h hr z =
      let here : surplus s ≡ 0 = z s (omega arith) (omega arith) in
      let v : pair s 0 r got ≡ 0 = omega (arith, here) in
      let g : got + 0 ≡ got = omega arith in
      let one : rest s 0 r got ≡ rest (s + 1) 0 r got = rw g at (rw v at (rest-sender s 0 r got (omega arith) hr (omega (arith, here)))) in
      let e : s + suc d ≡ s + 1 + d = omega arith in
      rw e (one ∙ senders_passed d (s + 1) r got (omega arith) hr (λ k a b. z k (omega arith) (omega arith)))

  pub receivers_passed : (d s sent r : ℕ) → s < nodes → 0 < surplus s - sent → r + d ≤ nodes
      → ((k : ℕ) → r ≤ k → k < r + d → shortage k ≡ 0)
      → rest s sent r 0 ≡ rest s sent (r + d) 0
  receivers_passed zero s sent r hs h l z = rw (add-zero r)
  receivers_passed (suc d) s sent r hs h l z =
      let here : shortage r ≡ 0 = z r (omega arith) (omega arith) in
      let v : pair s sent r 0 ≡ 0 = omega (arith, here) in
      let g : sent + 0 ≡ sent = omega arith in
      let one : rest s sent r 0 ≡ rest s sent (r + 1) 0 =
      rw g at (rw v at (rest-receiver s sent r 0 hs (omega arith) (omega (arith, here)))) in
      let e : r + suc d ≡ r + 1 + d = omega arith in
      rw e (one ∙ receivers_passed d s sent (r + 1) hs h (omega arith) (λ k a b. z k (omega arith) (omega arith)))

  -- ---- what a turn does: m particles go from s to r, and one of the two is done

  pub record Turn (s sent r got m s' sent' r' got' : ℕ) : Type 0 where
    pub s_lt : s < nodes
    pub r_lt : r < nodes
    pub surplus_le : sent + m ≤ surplus s
    pub shortage_le : got + m ≤ shortage r
    pub sends : sum s' surplus + sent' ≡ sum s surplus + sent + m
    pub gets : sum r' shortage + got' ≡ sum r shortage + got + m
    pub next : ((s' ≡ s + 1) × (r' ≡ r)) ⊎ ((s' ≡ s) × (r' ≡ r + 1))

  module _ (s sent r got : ℕ) (hs : s < nodes) (hr : r < nodes) (bs : sent ≤ surplus s) (br : got ≤ shortage r) where
    sender_done : surplus s - sent ≤ shortage r - got → Turn s sent r got (pair s sent r got) (s + 1) 0 r (got + pair s sent r got)
    sender_done h =
        record {
          s_lt = hs;
          r_lt = hr;
          surplus_le = omega arith;
          shortage_le = omega arith;
          sends = omega (arith, sum_more s surplus);
          gets = omega arith;
          next = inl (refl, refl);
        }

    receiver-done : shortage r - got < surplus s - sent → Turn s sent r got (pair s sent r got) s (sent + pair s sent r got) (r + 1) 0
    receiver-done h =
        record {
          s_lt = hs;
          r_lt = hr;
          surplus_le = omega arith;
          shortage_le = omega arith;
          sends = omega arith;
          gets = omega (arith, sum_more r shortage);
          next = inr (refl, refl);
        }

  -- ---- induction over the turns

  module _ (P : ℕ → ℕ → ℕ → ℕ → List Move → Type 0)
      (stop : (s sent r got : ℕ) → (nodes ≤ s) ⊎ (nodes ≤ r) → P s sent r got [])
      (pass : (s sent r got m s' sent' r' got' : ℕ) (rest : List Move) → Turn s sent r got m s' sent' r' got' → m ≡ 0
      → P s' sent' r' got' rest → P s sent r got rest)
      (move : (s sent r got m s' sent' r' got' : ℕ) (rest : List Move) → Turn s sent r got m s' sent' r' got' → 0 < m
      → P s' sent' r' got' rest
      → P s sent r got (record { sender = s; receiver = r; count = m } ∷ rest)) where
    turn : (s sent r got m s' sent' r' got' : ℕ) (rest : List Move) → Turn s sent r got m s' sent' r' got' → P s' sent' r' got' rest
        → P s sent r got (move_of s r m ++ rest)
    turn s sent r got m s' sent' r' got' rest t p = elim (ℕ_discrete m 0) [
      | yes e ↦ rw (eq-eqb m 0 e) (pass s sent r got m s' sent' r' got' rest t e p)
      | no d ↦ rw (ne_eqb m 0 d) (move s sent r got m s' sent' r' got' rest t (omega arith) p)
    ]

    pub turn-by-turn : (turns s sent r got : ℕ) → sent ≤ surplus s → got ≤ shortage r → 2 * nodes ≤ turns + (s + r)
        → P s sent r got (matched nodes surplus shortage turns s sent r got)
    turn-by-turn zero s sent r got bs br f = rw (turn-stop zero s sent r got past) (stop s sent r got past)
      where
        past : (nodes ≤ s) ⊎ (nodes ≤ r)
        past = elim (dec_le nodes s) [ yes h ↦ inl h | no d ↦ inr (omega (arith, d)) ]
    turn-by-turn (suc turns) s sent r got bs br f = elim (dec_le nodes s) [
      | yes h ↦ rw (turn-stop (suc turns) s sent r got (inl h)) (stop s sent r got (inl h))
      | no ds ↦ elim (dec_le nodes r) [
        | yes h ↦ rw (turn-stop (suc turns) s sent r got (inr h)) (stop s sent r got (inr h))
        | no dr ↦
            let hs : s < nodes = omega (arith, ds) in
            let hr : r < nodes = omega (arith, dr) in
            let m = pair s sent r got in
            elim (dec_le (surplus s - sent) (shortage r - got)) [
              | yes h ↦
                  rw (turn-sender turns s sent r got hs hr h)
                  (turn s sent r got m (s + 1) 0 r (got + m) (matched nodes surplus shortage turns (s + 1) 0 r (got + m))
                  (sender_done s sent r got hs hr bs br h)
                  (turn-by-turn turns (s + 1) 0 r (got + m) (omega arith) (omega arith) (omega arith)))
              | no d ↦
                  let h : shortage r - got < surplus s - sent = omega (arith, d) in
                  rw (turn-receiver turns s sent r got hs hr h)
                  (turn s sent r got m s (sent + m) (r + 1) 0 (matched nodes surplus shortage turns s (sent + m) (r + 1) 0)
                  (receiver-done s sent r got hs hr bs br h)
                  (turn-by-turn turns s (sent + m) (r + 1) 0 (omega arith) (omega arith) (omega arith)))
            ]
      ]
    ]

-- ---- only what stands below the number of nodes is looked at

pub matched-eq : (nodes : ℕ) (surplus shortage surplus' shortage' : ℕ → ℕ) → ((k : ℕ) → k < nodes → surplus k ≡ surplus' k)
    → ((k : ℕ) → k < nodes → shortage k ≡ shortage' k)
    → (turns s sent r got : ℕ) → matched nodes surplus shortage turns s sent r got ≡ matched nodes surplus' shortage' turns s sent r got
matched-eq nodes f g f' g' ef eg zero s sent r got = unfold matched in refl
matched-eq nodes f g f' g' ef eg (suc turns) s sent r got = elim (dec_le nodes s) [
  | yes h ↦ turn-stop nodes f g (suc turns) s sent r got (inl h) ∙ sym (turn-stop nodes f' g' (suc turns) s sent r got (inl h))
  | no ds ↦ elim (dec_le nodes r) [
    | yes h ↦ turn-stop nodes f g (suc turns) s sent r got (inr h) ∙ sym (turn-stop nodes f' g' (suc turns) s sent r got (inr h))
    | no dr ↦
        let hs : s < nodes = omega (arith, ds) in
        let hr : r < nodes = omega (arith, dr) in
        let m = pair nodes f g s sent r got in
        elim (dec_le (f s - sent) (g r - got)) [
          | yes h ↦
              turn-sender nodes f g turns s sent r got hs hr h
              ∙ rw (matched-eq nodes f g f' g' ef eg turns (s + 1) 0 r (got + m))
              (sym (turn-sender nodes f' g' turns s sent r got hs hr (rw (← ef s hs, ← eg r hr) h) ∙ rw (← ef s hs, ← eg r hr)))
          | no d ↦
              let h : g r - got < f s - sent = omega (arith, d) in
              turn-receiver nodes f g turns s sent r got hs hr h
              ∙ rw (matched-eq nodes f g f' g' ef eg turns s (sent + m) (r + 1) 0)
              (sym (turn-receiver nodes f' g' turns s sent r got hs hr (rw (← ef s hs, ← eg r hr) h) ∙ rw (← ef s hs, ← eg r hr)))
        ]
  ]
]
