-- The level form: everybody's room is brought down to the lowest level that the rest reaches, and what is left goes one each to the first
-- that stand there. It is what one particle after another leads to. Assumes nothing.
use mathlib.Core.Path.{◌≡◌, ap, ap₂, ◌∙◌}
use mathlib.Core.Logic.{◌≢◌, ⊎_elim}
use Prim.Native.Nat.{ℕ, ◌+◌, ◌-◌, ◌≤◌, ◌<◌, min}
use native.Mathlib.Decide.{ℕ_discrete}
use native.Mathlib.Omega.{arith}
use Rattle.fold.specs.Sum.{sum}
use Rattle.fold.proofs.Sums.{sum_more, sum-le, sum-eq, sum-add, sum_fewer, sum_in_turn}
use Rattle.shares.specs.Fill.{room}
use Rattle.shares.specs.Inner.{over, Lowest, unit, extra, gets}
use Rattle.shares.proofs.Levelled.{Levelled}

-- whoever has space is at the limit once it is full
abbrev pub UpTo : ℕ → ℕ → (ℕ → ℕ) → (ℕ → ℕ) → Type 0
UpTo limit nodes beside space = (k : ℕ) → k < nodes → 0 < space k → beside k + space k ≡ limit

min-right : (x y : ℕ) → min x y ≤ y
min-right x y = omega arith

-- ---- one node

module _ (room level e : ℕ) (h : e ≤ room - (level - 1) - (room - level)) where
  gets-most : room - level + e ≤ room
  gets-most = omega arith

  down_to : room ≤ room - level + e + level
  down_to = omega arith

  not-below : 0 < room - level + e → room - level + e + (level - 1) ≤ room
  not-below g = omega arith

  without : 0 < room - level + e → e ≡ 0 → room - level + e + level ≤ room
  without g z = omega arith

  with_one : room - (level - 1) - (room - level) ≤ e → room ≤ room - level + e + (level - 1)
  with_one g = omega arith

-- ---- sums

-- where one gets some, each before it is full
full_before : (x : ℕ) (rooms : ℕ → ℕ) (k j : ℕ) → k < j → min (x - sum j rooms) (rooms j) ≢ 0 → rooms k ≤ min (x - sum k rooms) (rooms k)
full_before x rooms k j b d = omega (arith, sum_fewer (k + 1) j rooms (omega arith), sum_more k rooms)

-- to the next level
over-next : (n : ℕ) (rooms : ℕ → ℕ) (level : ℕ) → over n rooms (level - 1) ≡ over n rooms level + sum n (unit rooms level)
over-next n rooms level =
    sum-eq n (λ k. rooms k - (level - 1)) (λ k. rooms k - level + unit rooms level k) (λ k l. omega arith)
    ∙ sum-add n (λ k. rooms k - level) (unit rooms level)

-- a lower level takes more
pub over-le : (n : ℕ) (rooms : ℕ → ℕ) (low high : ℕ) → low ≤ high → over n rooms high ≤ over n rooms low
over-le n rooms low high h = sum-le n (λ k. rooms k - high) (λ k. rooms k - low) (λ k l. omega arith)

-- ---- all nodes

gets-sum : (n : ℕ) (rooms : ℕ → ℕ) (rest level : ℕ) → Lowest n rooms rest level
    → sum n (gets rooms level (rest - over n rooms level)) ≡ min rest (sum n rooms)
unfolding gets
gets-sum n rooms rest level p =
    let left = rest - over n rooms level in
    let a = sum-add n (λ k. rooms k - level) (extra rooms level left) in
    let b = sum_in_turn n (unit rooms level) left in
    let c = over-next n rooms level in
    let e = over-le n rooms 0 (level - 1) (omega arith) in
    let f : over n rooms 0 ≡ sum n rooms = sum-eq n (λ k. rooms k - 0) rooms (λ k l. omega arith) in
    ⊎_elim (λ z. omega (arith, p.reached, ap (over n rooms) z)) (λ h. omega (arith, p.reached)) p.lowest

-- THEOREM. The level form is what one particle after another leads to.
pub level-levelled : (nodes limit : ℕ) (beside space kept : ℕ → ℕ) (rest level : ℕ) → UpTo limit nodes beside space
    → Lowest nodes (room space kept) rest level
    → Levelled nodes beside space kept rest (λ k. kept k + gets (room space kept) level (rest - over nodes (room space kept) level) k)
level-levelled nodes limit beside space kept rest level up p =
    record {
      keeps = λ k l. omega arith;
      fits = λ k l. omega (arith, most k);
      adds = sum-add nodes kept g ∙ ap (λ (x : ℕ). sum nodes kept + x) (gets-sum nodes rooms rest level p);
      near = λ j k lj lk c d.
          omega (arith, most j, most k, high j (omega arith), low k, up j lj (omega (arith, most j)), up k lk (omega arith));
      ties = λ j k lj b c d.
          let lk : k < nodes = omega arith in
          omega (arith, most j, most k, tied j k b (omega arith), up j lj (omega (arith, most j)), up k lk (omega arith));
    }
  where
    rooms : ℕ → ℕ
    rooms = room space kept

    left : ℕ
    left = rest - over nodes rooms level

    g : ℕ → ℕ
    g = gets rooms level left

    part : (k : ℕ) → extra rooms level left k ≤ unit rooms level k
    part k = min-right (left - sum k (unit rooms level)) (unit rooms level k)

    most : (k : ℕ) → g k ≤ rooms k
    most k = unfold gets in gets-most (rooms k) level (extra rooms level left k) (part k)

    low : (k : ℕ) → rooms k ≤ g k + level
    low k = unfold gets in down_to (rooms k) level (extra rooms level left k) (part k)

    high : (k : ℕ) → 0 < g k → g k + (level - 1) ≤ rooms k
    high k = unfold gets in not-below (rooms k) level (extra rooms level left k) (part k)

    flat : (k : ℕ) → 0 < g k → extra rooms level left k ≡ 0 → g k + level ≤ rooms k
    flat k = unfold gets in without (rooms k) level (extra rooms level left k) (part k)

    down : (k : ℕ) → unit rooms level k ≤ extra rooms level left k → rooms k ≤ g k + (level - 1)
    down k = unfold gets in with_one (rooms k) level (extra rooms level left k) (part k)

    -- whoever gets one of what is left comes before whoever gets none
    tied : (j k : ℕ) → k < j → 0 < g j → rooms k + g j ≤ rooms j + g k
    tied j k b c = elim (ℕ_discrete (extra rooms level left j) 0) [
      | yes z ↦ omega (arith, low k, flat j c z)
      | no d ↦ omega (arith, high j c, down k (full_before left (unit rooms level) k j b d))
    ]

-- ---- what a member gets that comes to its turn

-- what is left for it: the members below it have taken one each, if they reach the level
pub gets-turn : (rooms : ℕ → ℕ) (level left k : ℕ) {some one e : ℕ} → some ≡ left - sum k (unit rooms level) → one ≡ unit rooms level k
    → e ≡ min some one → rooms k - level + e ≡ gets rooms level left k
unfolding gets
gets-turn rooms level left k p o t = ap (λ (x : ℕ). rooms k - level + x) (t ∙ ap₂ min p o)
