-- The ways out of a traffic page: the answer, and the buffer as it is then; and that it is accepted exactly when every check passes.
-- Assumes nothing.
use mathlib.Core.Path.{◌≡◌, refl, ap, ◌∙◌}
use mathlib.Core.Bool.{true, false}
use mathlib.Core.List.{List}
use Prim.Native.Nat.{ℕ, ◌≤◌, ◌<◌}
use native.Mathlib.Omega.{arith}
use borrow.Author.Tests.{ltb-false, lt-ltb, le-ltb}
use lib.Dec.{ltb}
use lib.ListN.{length}
use Rattle.fold.specs.Sum.{sum}
use Rattle.fold.proofs.Sums.{sum-eq}
use Rattle.fold.proofs.Tests.{passed, handed}
use Rattle.limit.specs.Limit.{max_nodes, max_total}
use Rattle.arrays.specs.Arrays.{at}
use Rattle.words.specs.Buffer.{placed}
use Rattle.words.specs.Answer.{refused, accepted}
use Rattle.words.specs.declared.WrittenAnswer.{WrittenAnswer}
use Rattle.words.proofs.Writing.{Ends, ends_refused as leaves}
use Rattle.sheet.specs.declared.Sheet.{Sheet}
use Rattle.sheet.specs.declared.SheetAnswer.{SheetAnswer}
use Rattle.sheet.specs.Sheet.{read_sheet}
use Rattle.moves.specs.declared.Moves.{Moves}
use Rattle.moves.specs.declared.MovesAnswer.{MovesAnswer}
use Rattle.moves.specs.Moves.{read_moves}
use Rattle.carry.specs.declared.check.CheckRefusal.{CheckRefusal}
use Rattle.carry.specs.declared.check.CheckRefusal.TheVariants.{Sends}
use Rattle.carry.specs.Checks.{check_number, within_in, checked}
use Rattle.carry.specs.Inner.{PairAccepted}
use Rattle.carry.proofs.Checks.{Carriable, carriable, carriable_checked, stops_sends, stops_nowhere, ends_checked, sheet_facts, readable}
use Rattle.traffic.specs.declared.Traffic.{Traffic}
use Rattle.traffic.specs.Page.{sent_by, received_by, page_of, page_in, page_size, page_answer}
use Rattle.traffic.specs.Inner.{Countable, TrafficOf}
use Rattle.traffic.proofs.Lines.{page-eq}
use Rattle.traffic.proofs.Sums.{total-small, sent-sum, received-sum}

module _ (s m out : List ℕ) where
  -- what was answered, and the buffer as it is then
  abbrev pub PageEnds : WrittenAnswer → List ℕ → Type 0
  PageEnds a out₁ = Ends (page_answer s m (length out)) (page_in s m) out a out₁

  pub ends_refused : (r : CheckRefusal) → check_number r ≡ checked s m → PageEnds (refused (check_number r)) out
  unfolding page_answer
  ends_refused = ends_checked s m (page_answer s m (length out)) _ refl (page_in s m) out

-- the sheet and the moves were read
module _ {s m : List ℕ} {h : Sheet} {q : Moves} (r : PairAccepted s m h q) (out : List ℕ) where
  n_is : h.n ≡ (read_sheet s).n
  n_is = ap (λ (a : SheetAnswer). a.n) r.sheet

  e_is : q.e ≡ (read_moves m).e
  e_is = ap (λ (a : MovesAnswer). a.e) r.moves

  n_high : h.n ≤ max_nodes
  n_high = (sheet_facts r).n_high

  pub ends_sends : within_in s m ≡ false → PageEnds s m out (refused 42) out
  ends_sends f = ends_refused s m out Sends (stops_sends r f)

  -- past 42
  module _ (w : within_in s m ≡ true) where
    fine : Carriable s m
    fine = stops_nowhere r w

    pub countable : Countable m q.e
    countable = record { entries = readable r; small = rw e_is (total-small fine) }

    -- "53 for a buffer under 25 × (N+1) bytes"
    pub ends_short : length out < page_size h.n → PageEnds s m out (refused 53) out
    unfolding page_answer
    ends_short l =
        let short : length out < page_size (read_sheet s).n = rw n_is at l in
        leaves (page_answer s m (length out)) (page_in s m) out 53 (λ z. omega arith)
        (rw (carriable_checked s m fine, lt-ltb (length out) (page_size (read_sheet s).n) short))

    -- the traffic was added up
    module _ {t : Traffic} (is : TrafficOf m q.e t) where
      traffic_is : TrafficOf m (read_moves m).e t
      traffic_is = rw e_is at is

      sent-at : (k : ℕ) → k < h.n → at t.sent k ≡ sent_by m k
      sent-at k l = traffic_is.sent k (omega (arith, n_high))

      received-at : (k : ℕ) → k < h.n → at t.received k ≡ received_by m k
      received-at k l = traffic_is.received k (omega (arith, n_high))

      pub sums_fit : (sum h.n (at t.sent) ≤ max_total) × (sum h.n (at t.received) ≤ max_total)
      sums_fit =
          let small = total-small fine in (
            rw (sum-eq h.n (at t.sent) (sent_by m) sent-at, n_is, sent-sum fine) small,
            rw (sum-eq h.n (at t.received) (received_by m) received-at, n_is, received-sum fine) small,
          )

      page-is : page_of h.n (at t.sent) (at t.received) ≡ page_in s m
      page-is =
          page-eq h.n (at t.sent) (sent_by m) (at t.received) (received_by m) sent-at received-at
          ∙ ap (λ (n : ℕ). page_of n (sent_by m) (received_by m)) n_is

      pub ends_printed : page_size h.n ≤ length out
          → PageEnds s m out (accepted (page_size h.n)) (placed (page_of h.n (at t.sent) (at t.received)) out)
      unfolding page_answer
      ends_printed l =
          let fits : page_size (read_sheet s).n ≤ length out = rw n_is at l in
          rw (page-is, n_is, carriable_checked s m fine, le-ltb (length out) (page_size (read_sheet s).n) fits) (refl, refl)

-- ---- accepted: every check passed

module _ (s m : List ℕ) (size : ℕ) where
  pub printed : (page_answer s m size).refusal ≡ 0 → Carriable s m × (page_size (read_sheet s).n ≤ size)
  unfolding page_answer
  printed q =
      let f : WrittenAnswer → ℕ = λ a. a.refusal in
      let a₁ = handed f refused (λ k. refl) (checked s m) _ q in
      let a₂ = passed f (ltb size (page_size (read_sheet s).n)) (refused 53) _ (λ z. omega arith) a₁.1 in
      (carriable s m a₁.0, ltb-false size (page_size (read_sheet s).n) a₂.0)

  -- and conversely
  pub prints : Carriable s m → page_size (read_sheet s).n ≤ size → page_answer s m size ≡ accepted (page_size (read_sheet s).n)
  unfolding page_answer
  prints d fits = rw (carriable_checked s m d, le-ltb size (page_size (read_sheet s).n) fits)
