-- A level is raised until the rest reaches it: by as much as all members that are above it must come down at least. Each such turn leaves
-- fewer of them above it. Assumes nothing.
use mathlib.Core.Path.{◌≡◌, ap, ap₂, ◌∙◌}
use mathlib.Core.Logic.{◌⊎◌, inl, inr}
use mathlib.Core.Bool.{Bool, true, false}
use Prim.Native.Nat.{ℕ, zero, suc, ◌+◌, ◌-◌, ◌*◌, ◌/◌, ◌≤◌, ◌<◌, max}
use native.Mathlib.Nat.{mul-add, add-mul, mul-zero, mul-le-mul_left, div-mul-le_self, lt-div-mul-add}
use native.Mathlib.Decide.{dec_lt}
use native.Mathlib.Omega.{arith}
use lib.Dec.{ltb}
use borrow.Author.Tests.{lt-ltb, le-ltb}
use Rattle.fold.specs.Sum.{only, sum}
use Rattle.fold.proofs.Sums.{sum-le, sum-add, sum_zeros, sum_term}
use Rattle.fold.proofs.Tests.{only-is, only-not}
use Rattle.shares.specs.Inner.{over, count_above, Somewhere}

-- ---- how what lies above a level changes with it

-- one room, d levels higher
falls-most : (room level d : ℕ) → room - level ≤ room - (level + d) + only (ltb level room) d
falls-most room level d = elim (dec_lt level room) [
  | yes l ↦ omega (arith, only-is (ltb level room) d (lt-ltb level room l))
  | no c ↦ omega (arith, only-not (ltb level room) d (le-ltb level room (omega arith)))
]

falls-least : (room level d : ℕ) → room - (level + d) + only (ltb (level + d) room) d ≤ room - level
falls-least room level d = elim (dec_lt (level + d) room) [
  | yes l ↦ omega (arith, only-is (ltb (level + d) room) d (lt-ltb (level + d) room l))
  | no c ↦ omega (arith, only-not (ltb (level + d) room) d (le-ltb (level + d) room (omega arith)))
]

-- d for each that passes a test
count_times : (n : ℕ) (b : ℕ → Bool) (d : ℕ) → sum n (λ k. only (b k) d) ≡ d * sum n (λ k. only (b k) 1)
unfolding sum
count_times zero b d = omega arith
count_times (suc n) b d = omega (arith, count_times n b d, mul-add d (sum n (λ k. only (b k) 1)) (only (b n) 1), one (b n))
  where
    one : (t : Bool) → only t d ≡ d * only t 1
    one true = omega arith
    one false = omega arith

module _ (n : ℕ) (rooms : ℕ → ℕ) where
  over-most : (level d : ℕ) → over n rooms level ≤ over n rooms (level + d) + d * count_above n rooms level
  over-most level d =
      omega (
        arith,
        sum-le n (λ k. rooms k - level) (λ k. rooms k - (level + d) + only (ltb level (rooms k)) d) (λ k l. falls-most (rooms k) level d),
        sum-add n (λ k. rooms k - (level + d)) (λ k. only (ltb level (rooms k)) d),
        count_times n (λ k. ltb level (rooms k)) d,
      )

  over-least : (level d : ℕ) → over n rooms (level + d) + d * count_above n rooms (level + d) ≤ over n rooms level
  over-least level d =
      omega (
        arith,
        sum-le n (λ k. rooms k - (level + d) + only (ltb (level + d) (rooms k)) d) (λ k. rooms k - level)
            (λ k l. falls-least (rooms k) level d),
        sum-add n (λ k. rooms k - (level + d)) (λ k. only (ltb (level + d) (rooms k)) d),
        count_times n (λ k. ltb (level + d) (rooms k)) d,
      )

  -- no room is above the largest
  module _ (most : ℕ) (bound : (k : ℕ) → k < n → rooms k ≤ most) where
    none_over : (level : ℕ) → most ≤ level → over n rooms level ≡ 0
    none_over level l = sum_zeros n (λ k. rooms k - level) (λ k b. omega (arith, bound k b))

    -- ---- a turn: the rest does not reach the level
    module _ (rest level : ℕ) (short : rest < over n rooms level) where
      -- somebody is above it
      pub some-above : 0 < count_above n rooms level
      some-above = elim (dec_lt 0 (count_above n rooms level)) [
        | yes l ↦ l
        | no d ↦
            let z : count_above n rooms level ≡ 0 = omega arith in
            absurd (omega (
              arith,
              over-most level most,
              none_over (level + most) (omega arith),
              ap (λ (x : ℕ). most * x) z,
              mul-zero most,
            ))
      ]

      -- by how much it is raised
      abbrev pub step : ℕ
      step = (over n rooms level - rest - 1) / count_above n rooms level

      not_yet : rest < over n rooms (level + step)
      not_yet = omega (arith, over-most level step, div-mul-le_self (over n rooms level - rest - 1) (count_above n rooms level))

      pub raised-lowest : rest < over n rooms (level + (step + 1) - 1)
      raised-lowest =
          let e : level + (step + 1) - 1 ≡ level + step = omega arith in
          rw e not_yet

      pub raised-most : level + (step + 1) ≤ most
      raised-most = elim (dec_lt (level + step) most) [
        | yes l ↦ omega arith
        | no d ↦ absurd (omega (arith, not_yet, none_over (level + step) (omega arith)))
      ]

      -- if as many were above it as before, the rest would reach it
      pub fewer_above : rest < over n rooms (level + (step + 1)) → count_above n rooms (level + (step + 1)) < count_above n rooms level
      fewer_above still =
          let before = count_above n rooms level in
          let after = count_above n rooms (level + (step + 1)) in
          elim (dec_lt after before) [
            | yes l ↦ l
            | no d ↦
                absurd (omega (
                  arith,
                  still,
                  over-least level (step + 1),
                  mul-le-mul_left {m = before} {n = after} (step + 1) (omega arith),
                  add-mul step 1 before,
                  lt-div-mul-add {a = over n rooms level - rest - 1} {b = before} some-above,
                ))
          ]

-- ---- where the search begins

-- all of the rest would bring one room down to this level, if there were no other
pub start-lowest : {n : ℕ} {rooms : ℕ → ℕ} {most : ℕ} (rest : ℕ) → Somewhere n rooms most
    → (most - rest ≡ 0) ⊎ (rest < over n rooms (most - rest - 1))
start-lowest {n} {rooms} {most} rest p = elim (dec_lt rest most) [
  | yes l ↦ inr (omega (arith, p.there, sum_term n (λ k. rooms k - (most - rest - 1)) p.node p.inside))
  | no d ↦ inl (omega arith)
]

-- a larger room is somewhere too
pub somewhere_larger : {n : ℕ} {rooms : ℕ → ℕ} {most k x : ℕ} → Somewhere n rooms most → k < n → x ≤ rooms k
    → Somewhere n rooms (max most x)
somewhere_larger {most = most} {k} {x} p l b = elim (dec_lt most x) [
  | yes g ↦ record { node = k; inside = l; there = omega arith }
  | no d ↦ record { node = p.node; inside = p.inside; there = omega (arith, p.there) }
]

-- ---- a turn of a loop that has counted how much and how many are above the level

-- how many members are above the level, until the rest reaches it
abbrev pub turns_left : ℕ → (ℕ → ℕ) → ℕ → ℕ → ℕ
turns_left n rooms rest level = only (ltb rest (over n rooms level)) (count_above n rooms level)

pub record Counted (n : ℕ) (rooms : ℕ → ℕ) (level particles members : ℕ) : Type 0 where
  pub particles_are : particles ≡ over n rooms level
  pub members_are : members ≡ count_above n rooms level

module _ {n : ℕ} {rooms : ℕ → ℕ} {most rest level particles members : ℕ} (bound : (k : ℕ) → k < n → rooms k ≤ most)
    (a : Counted n rooms level particles members) (short : rest < particles) where
  below : rest < over n rooms level
  below = omega (arith, a.particles_are)

  pub turn-some : 0 < members
  turn-some = omega (arith, a.members_are, some-above n rooms most bound rest level below)

  module _ {up : ℕ} (u : up ≡ (particles - rest - 1) / members + 1) where
    up_is : up ≡ step n rooms most bound rest level below + 1
    up_is = u ∙ ap₂ (λ (x y : ℕ). (x - rest - 1) / y + 1) a.particles_are a.members_are

    pub turn-lowest : rest < over n rooms (level + up - 1)
    turn-lowest = rw up_is (raised-lowest n rooms most bound rest level below)

    pub turn-most : level + up ≤ most
    turn-most = rw up_is (raised-most n rooms most bound rest level below)

    fewer : rest < over n rooms (level + up) → count_above n rooms (level + up) < count_above n rooms level
    fewer = rw up_is (fewer_above n rooms most bound rest level below)

    pub turn_fewer : turns_left n rooms rest (level + up) < turns_left n rooms rest level
    turn_fewer =
        let before = only-is (ltb rest (over n rooms level)) (count_above n rooms level) (lt-ltb rest (over n rooms level) below) in
        let x = over n rooms (level + up) in
        let c = count_above n rooms (level + up) in
        elim (dec_lt rest x) [
          | yes l ↦ omega (arith, before, only-is (ltb rest x) c (lt-ltb rest x l), fewer l)
          | no d ↦ omega (arith, before, only-not (ltb rest x) c (le-ltb rest x (omega arith)), turn-some, a.members_are)
        ]
