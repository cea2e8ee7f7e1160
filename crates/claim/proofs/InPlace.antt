-- Request 2026-07 of the bytes that *plan a step* and then *carry out* write: where the old tree is kept, helpers' own particles are left
-- in place as far as their family can afford it. Assumes nothing.
use mathlib.Core.Path.{◌≡◌, refl, ◌∙◌}
use mathlib.Core.Logic.{inl}
use mathlib.Core.List.{List}
use Prim.Native.Nat.{ℕ, ◌-◌, ◌≤◌, ◌<◌}
use native.Mathlib.Omega.{arith}
use lib.ListN.{length, take}
use Rattle.plan.specs.Kinds.{kind_number}
use Rattle.arrays.specs.Arrays.{at}
use Rattle.sheet.specs.Sheet.{cell, read_sheet}
use Rattle.sheet.specs.Table.{table_in, held}
use Rattle.sheet.specs.Totals.{totals_in}
use Rattle.sheet.proofs.Accepted.{sheet-accepted}
use Rattle.sheet.proofs.Tables.{length-table}
use Rattle.transfer.proofs.Applied.{within-at, carried-at}
use Rattle.transfer.proofs.Dues.{due-owner}
use Rattle.shares.specs.Hold.{OwnInPlace}
use Rattle.planner.specs.Step.{decision_in, plan_in, decided_routes, decided_counts, moves_in, step_answer, plan_after, moves_after}
use Rattle.planner.proofs.ReadBack.{Plannable, carries}
use Rattle.carry.specs.Carry.{next_sheet, carry_answer, next_after}
use Rattle.carry.proofs.ReadBack.{next_back}
use Rattle.claim.specs.Claim.{Overloaded, AcceptedTree, LongEnough, helpand, share, own}
use Rattle.claim.specs.Rest.{leasts}
use Rattle.claim.specs.InPlace.{sends_of, OwnInPlaceIn}
use Rattle.claim.proofs.Exact.{plannable, carriable, routes_are, counts_are, next-table, balanced}
use Rattle.claim.proofs.KeptPlans.{decided_so, in_plan, kept_step}

-- ---- what is sent

module _ {s o : List ℕ} (over : Overloaded s) (y : Plannable s o) where
  -- nobody sends more of a subdomain than it has less of it in the sheet that follows: who sends does not receive
  sent-most : (k n : ℕ) → k < (read_sheet s).n → n < (read_sheet s).n
      → sends_of (moves_in s o) k n ≤ held (table_in s) k n - held (table_in (next_sheet s (moves_in s o))) k n
  sent-most k n lk ln =
      let routes = decided_routes s o in
      let counts = decided_counts s o in
      let b : cell k n < length (table_in s) =
      omega (arith, length-table s (read_sheet s).e, (sheet-accepted s over.accepted).n_high) in
      rw (routes_are over y, counts_are over y, (next_back (carriable over y)).table ∙ next-table over y)
      (omega (
        arith,
        (carries y).apart (cell k n),
        within-at (table_in s) routes counts (carries y).within (cell k n) b,
        carried-at routes counts (table_in s) (cell k n) b,
      ))

-- ---- the three records

module _ {s o : List ℕ} (over : Overloaded s) (t : AcceptedTree s o) (e : kind_number (decision_in s o).kind ≡ 1) where
  abbrev Given : (ℕ → ℕ) → (ℕ → ℕ) → (ℕ → ℕ) → Type 0
  Given h least share = OwnInPlace (read_sheet s).n h (read_sheet s).limit least (at (totals_in s)) (held (table_in s)) share

  given_in : Given (helpand s (plan_in s o)) (leasts s (plan_in s o)) (share s (plan_in s o))
  given_in = in_plan over t e Given (decided_so over t e).in_place

  in_place : OwnInPlaceIn s (plan_in s o) (moves_in s o) (next_sheet s (moves_in s o))
  in_place n k l b h f =
      let y = plannable s o over (inl t) in
      let plan = plan_in s o in
      let given = given_in n k l b h f in
      let there = (balanced over y (inl t)).amounts k k b b ∙ due-owner (helpand s plan) (share s plan) (own s plan k) k k refl in
      record { given = given; sent = omega (arith, given, there, sent-most over y k k b b); stays = omega (arith, given, there) }

-- THEOREM. For every accepted sheet with a subdomain above the limit, every accepted tree of as many nodes and buffers long enough: if the
-- step keeps the tree, then the own particles, up to the limit, of each helper of a family that can afford the holds are left in place.
pub own_in_place : (s o p m x : List ℕ) → Overloaded s → AcceptedTree s o → LongEnough s p m x
    → let a = step_answer s o (length p) (length m) in
    let moves = take a.moves (moves_after s o m (length p)) in
    let c = carry_answer s moves (length x) in
    a.kind ≡ 1 → OwnInPlaceIn s (take a.plan (plan_after s o p (length m))) moves (take c.bytes (next_after s moves x))
own_in_place s o p m x over t long = kept_step s o p m x over t long (OwnInPlaceIn s) (in_place over t)
