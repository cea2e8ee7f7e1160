-- Request 2026-10 over bytes, of what *carry out* answers and writes. Assumes nothing.
use mathlib.Core.Path.{◌≡◌, refl, sym, ap, ap₂, ◌∙◌}
use mathlib.Core.Logic.{◌≢◌, ◌⊎◌, inl, inr, ⊎_elim, ◌↔◌}
use mathlib.Core.Bool.{Bool, true, false, not, cond, true≢false}
use mathlib.Core.List.{List, map}
use Prim.Native.Nat.{ℕ, ◌<◌}
use native.Mathlib.Omega.{arith}
use borrow.Author.Tests.{eq-eqb}
use lib.ListN.{length, take, get_or}
use Rattle.fold.proofs.Tests.{either}
use Rattle.words.specs.Buffer.{after_call}
use Rattle.words.specs.declared.WrittenAnswer.{WrittenAnswer}
use Rattle.sheet.specs.declared.SheetAnswer.{SheetAnswer}
use Rattle.sheet.specs.Sheet.{read_sheet}
use Rattle.sheet.specs.Table.{table_in}
use Rattle.sheet.specs.Write.{sheet_bytes}
use Rattle.moves.specs.declared.MovesAnswer.{MovesAnswer}
use Rattle.moves.specs.Moves.{read_moves, subdomain}
use Rattle.carry.specs.Checks.{checked, within_in}
use Rattle.carry.specs.Carry.{carry_answer, next_table, next_sheet, next_after}
use Rattle.carry.proofs.Checks.{Carriable}
use Rattle.carry.proofs.ReadBack.{carried-out, carries_out, next_back, next-front, next-size}
use Rattle.carry.proofs.Sizes.{refused_42}
use Rattle.halves.specs.Parts.{route_of, entries_in, Parts}
use Rattle.halves.specs.Halves.{LongEnough, Halves, HalfFirst}
use Rattle.halves.proofs.Merges.{merge_exchanged}
use Rattle.halves.proofs.Records.{routes_listed, routes-read, counts-read, routes-below, parts_exchanged, first-accepted, second-accepted}
use Rattle.halves.proofs.Tables.{within_by, carried_by, within-part, within-whole, within-after, within_before, carried_twice}

-- ---- any sheet and moves

-- two tests that pass together
same_tests : (a b : Bool) → (a ≡ true → b ≡ true) → (b ≡ true → a ≡ true) → a ≡ b
same_tests true b f g = sym (f refl)
same_tests false true f g = g refl
same_tests false false f g = refl

-- the sheet that follows, by what is read
sheet_of : (s m table : List ℕ) (n t : ℕ) → (read_sheet s).n ≡ n → (read_sheet s).t ≡ t → next_table s m ≡ table
    → next_sheet s m ≡ sheet_bytes n t table
unfolding next_sheet
sheet_of s m table n t en et e = rw (en, et, e)

-- the answer, by the checks and by the sheet that follows
answer_of : (s m s' m' : List ℕ) (size : ℕ) → checked s m ≡ checked s' m' → next_sheet s m ≡ next_sheet s' m'
    → carry_answer s m size ≡ carry_answer s' m' size
unfolding carry_answer
answer_of s m s' m' size e f = rw (e, f)

-- both accepted, of equal N: 42 is the one check left, and *carry out* goes by the list of moves
module _ (s m : List ℕ) (sheet : (read_sheet s).refusal ≡ 0) (moves : (read_moves m).refusal ≡ 0) (nodes : (read_sheet s).n ≡ (read_moves m).n) where
  checked-is : checked s m ≡ cond (not (within_in s m)) 42 0
  unfolding checked
  checked-is =
      rw (eq-eqb (read_sheet s).refusal 0 sheet, eq-eqb (read_moves m).refusal 0 moves, eq-eqb (read_sheet s).n (read_moves m).n nodes)

  within-is : within_in s m ≡ within_by (table_in s) (entries_in m)
  within-is = rw (routes-read m moves, counts-read m moves)

  table_is : next_table s m ≡ carried_by (table_in s) (entries_in m)
  table_is = rw (routes-read m moves, counts-read m moves)

  refused-within : checked s m ≡ 42 → within_in s m ≡ false
  refused-within e =
      ⊎_elim (λ (w : within_in s m ≡ true). absurd (omega (arith, e, checked-is ∙ ap (λ (x : Bool). cond (not x) 42 0) w)))
      (λ (f : within_in s m ≡ false). f) (either (within_in s m))

  within-refused : within_in s m ≡ false → checked s m ≡ 42
  within-refused f = checked-is ∙ ap (λ (x : Bool). cond (not x) 42 0) f

-- ---- two parts

module _ {s m a b : List ℕ} (p : Parts s m a b) where
  read_first : (read_moves a).refusal ≡ 0
  read_first = ap (λ (x : MovesAnswer). x.refusal) (first-accepted p)

  read-second : (read_moves b).refusal ≡ 0
  read-second = ap (λ (x : MovesAnswer). x.refusal) (second-accepted p)

  nodes-first : (read_sheet s).n ≡ (read_moves a).n
  nodes-first = p.nodes ∙ sym (ap (λ (x : MovesAnswer). x.n) (first-accepted p))

  nodes-second : (read_sheet s).n ≡ (read_moves b).n
  nodes-second = p.nodes ∙ sym (ap (λ (x : MovesAnswer). x.n) (second-accepted p))

  disjoint : (i j : ℕ) → i < length (map route_of (entries_in a)) → j < length (map route_of (entries_in b))
      → subdomain (get_or (map route_of (entries_in a)) i 0) ≢ subdomain (get_or (map route_of (entries_in b)) j 0)
  disjoint = rw (routes_listed p.first, routes_listed p.second) p.disjoint

  abbrev table : List ℕ
  table = table_in s

  within-m : within_in s m ≡ within_by table (entries_in m)
  within-m = within-is s m p.sheet p.moves p.nodes

  within_a : within_in s a ≡ within_by table (entries_in a)
  within_a = within-is s a p.sheet read_first nodes-first

  within_b : within_in s b ≡ within_by table (entries_in b)
  within_b = within-is s b p.sheet read-second nodes-second

  -- ---- 42

  first-within : within_in s m ≡ true → within_in s a ≡ true
  first-within w = within_a ∙ within-part p.merge table (sym within-m ∙ w)

  second-within : within_in s m ≡ true → within_in s b ≡ true
  second-within w = within_b ∙ within-part (merge_exchanged p.merge) table (sym within-m ∙ w)

  both_within : within_in s a ≡ true → within_in s b ≡ true → within_in s m ≡ true
  both_within wa wb =
      within-m
      ∙ within-whole p.merge table (routes-below a read_first) (routes-below b read-second) disjoint (sym within_a ∙ wa)
      (sym within_b ∙ wb)

  refused-parts : within_in s m ≡ false → (within_in s a ≡ false) ⊎ (within_in s b ≡ false)
  refused-parts f =
      ⊎_elim
      (λ (wa : within_in s a ≡ true).
      ⊎_elim (λ (wb : within_in s b ≡ true). absurd (true≢false (sym (both_within wa wb) ∙ f))) (λ (g : within_in s b ≡ false). inr g)
      (either (within_in s b)))
      (λ (g : within_in s a ≡ false). inl g) (either (within_in s a))

  -- a part that is not within keeps the whole from being so
  refused-whole : (x : List ℕ) → (within_in s m ≡ true → within_in s x ≡ true) → within_in s x ≡ false → within_in s m ≡ false
  refused-whole x h f =
      ⊎_elim (λ (w : within_in s m ≡ true). absurd (true≢false (sym (h w) ∙ f))) (λ (g : within_in s m ≡ false). g) (either (within_in s m))

  checked_42 : (checked s m ≡ 42) ↔ ((checked s a ≡ 42) ⊎ (checked s b ≡ 42))
  checked_42 = (
    λ e. ⊎_elim (λ (f : within_in s a ≡ false). inl (within-refused s a p.sheet read_first nodes-first f))
        (λ (f : within_in s b ≡ false). inr (within-refused s b p.sheet read-second nodes-second f))
        (refused-parts (refused-within s m p.sheet p.moves p.nodes e)),
    λ o. within-refused s m p.sheet p.moves p.nodes
        (⊎_elim (λ (e : checked s a ≡ 42). refused-whole a first-within (refused-within s a p.sheet read_first nodes-first e))
        (λ (e : checked s b ≡ 42). refused-whole b second-within (refused-within s b p.sheet read-second nodes-second e)) o),
  )

  carriable_first : Carriable s m → Carriable s a
  carriable_first d = record { sheet = p.sheet; moves = read_first; nodes = nodes-first; within = first-within d.within }

  -- ---- the first part is carried out

  module _ (d : Carriable s a) where
    abbrev x : List ℕ
    x = next_sheet s a

    sheet-x : (read_sheet x).refusal ≡ 0
    sheet-x = ap (λ (r : SheetAnswer). r.refusal) (next_back d).read

    nodes-x : (read_sheet x).n ≡ (read_moves b).n
    nodes-x = ap (λ (r : SheetAnswer). r.n) (next_back d).read ∙ nodes-second

    table-x : table_in x ≡ carried_by table (entries_in a)
    table-x = (next_back d).table ∙ table_is s a p.sheet read_first nodes-first

    within-x : within_in x b ≡ within_by (carried_by table (entries_in a)) (entries_in b)
    within-x = within-is x b sheet-x read-second nodes-x ∙ ap (λ (t : List ℕ). within_by t (entries_in b)) table-x

    checked-same : checked x b ≡ checked s m
    checked-same =
        let below-a = routes-below a read_first in
        let below-b = routes-below b read-second in
        checked-is x b sheet-x read-second nodes-x
        ∙ ap (λ (w : Bool). cond (not w) 42 0)
        (same_tests (within_in x b) (within_in s m)
        (λ w. both_within d.within
        (within_b ∙ within_before p.merge table below-a below-b disjoint (sym within-x ∙ w)))
        (λ w. within-x ∙ within-after p.merge table below-a below-b disjoint (sym within_b ∙ second-within w)))
        ∙ sym (checked-is s m p.sheet p.moves p.nodes)

    sheet-same : next_sheet x b ≡ next_sheet s m
    sheet-same =
        let n = (read_sheet s).n in
        let t = (read_sheet s).t in
        let both : List ℕ = carried_by (carried_by table (entries_in a)) (entries_in b) in
        sheet_of x b both n t (ap (λ (r : SheetAnswer). r.n) (next_back d).read) (ap (λ (r : SheetAnswer). r.t) (next_back d).read)
        (table_is x b sheet-x read-second nodes-x ∙ ap (λ (y : List ℕ). carried_by y (entries_in b)) table-x)
        ∙ ap (sheet_bytes n t)
        (carried_twice p.merge table (routes-below a read_first) (routes-below b read-second) disjoint
        ∙ sym (table_is s m p.sheet p.moves p.nodes))
        ∙ sym (sheet_of s m (next_table s m) n t refl refl refl)

    -- the second is answered as the whole, and leaves the same in every buffer
    after_same : (y : List ℕ) → (carry_answer x b (length y) ≡ carry_answer s m (length y)) × (next_after x b y ≡ next_after s m y)
    after_same y =
        let e = answer_of x b s m (length y) checked-same sheet-same in
        (e, ap₂ (λ (r : WrittenAnswer) (rec : List ℕ). after_call r.refusal rec y) e sheet-same)

-- ---- the request

-- THEOREM. Request 2026-10 holds of what *carry out* answers and writes, part a first and then part b, for every sheet, parts and buffers.
pub half_first : (s a b x y : List ℕ)
    → let c = carry_answer s a (length x) in
    let between = take c.bytes (next_after s a x) in
    HalfFirst s a b x y c (carry_answer between b (length y)) (next_after between b y)
half_first s a b x y m p long =
    record {
      first_read = read_first p;
      second_read = read-second p;
      carried = λ q.
          let d = carriable_first p (carried-out s m (length y) q).0 in
          let e = ap (λ (r : WrittenAnswer). r.refusal) (carries_out s a (length x) d (omega (arith, next-size d))) in
          (e, (after e).0, (after e).1);
      refused = (
        λ q. ⊎_elim (λ (e : checked s a ≡ 42). inl ((refused_42 s a (length x)).1 e))
            (λ (e : checked s b ≡ 42). inr ((refused_42 s b (length x)).1 e)) ((checked_42 p).0 ((refused_42 s m (length y)).0 q)),
        λ o. (refused_42 s m (length y)).1 ((checked_42 p).1
            (⊎_elim (λ (e : (carry_answer s a (length x)).refusal ≡ 42). inl ((refused_42 s a (length x)).0 e))
            (λ (e : (carry_answer s b (length x)).refusal ≡ 42). inr ((refused_42 s b (length x)).0 e)) o)),
      );
      after_first = after;
    }
  where
    after : (carry_answer s a (length x)).refusal ≡ 0
        → let between = take (carry_answer s a (length x)).bytes (next_after s a x) in
        (carry_answer between b (length y) ≡ carry_answer s m (length y)) × (next_after between b y ≡ next_after s m y)
    after q = rw (next-front s a x q) (after_same p (carried-out s a (length x) q).0 y)

-- THEOREM. "either list first and then the other": what holds of two parts holds of them in the other order.
pub either_first : (s m a b x y : List ℕ) → Parts s m a b → LongEnough s x
    → let whole = carry_answer s m (length y) in
    let c = carry_answer s b (length x) in
    let between = take c.bytes (next_after s b x) in
    Halves s b a (length x) whole c (carry_answer between a (length y)) (next_after s m y) (next_after between a y)
either_first s m a b x y p = half_first s b a x y m (parts_exchanged p)
