-- `halves::carry_out_halves` meets its contract: what is handed on is the sheet just written, and so the request holds. Assumes nothing.
use mathlib.Core.Path.{◌≡◌, sym, ap}
use mathlib.Core.List.{List}
use Prim.Native.Nat.{ℕ, ◌≤◌}
use native.Mathlib.Omega.{arith}
use lib.ListN.{length, take}
use lib.Seq.{length-take-le}
use Rattle.words.specs.declared.WrittenAnswer.{WrittenAnswer}
use Rattle.carry.specs.Carry.{carry_answer, next_after}
use Rattle.carry.proofs.Sizes.{carry_inside}
use Rattle.halves.specs.Halves.{HalfFirst}
use Rattle.halves.proofs.Halves.{half_first}
use Rattle.halves.proofs.carry_out_halves.Goals.{After-firrozka_carry_out-a}
use Rattle.halves.proofs.carry_out_halves.Goals as goal

-- the request, of answers and buffers that are what the contracts say
handed-on : (s a b x y : List ℕ) (c d : WrittenAnswer) (x₁ y₁ : List ℕ)
    → c ≡ carry_answer s a (length x) → x₁ ≡ next_after s a x
    → d ≡ carry_answer (take c.bytes x₁) b (length y) → y₁ ≡ next_after (take c.bytes x₁) b y → HalfFirst s a b x y c d y₁
handed-on s a b x y c d x₁ y₁ e f g h = rw (g, h, f, e) (half_first s a b x y)

size-inside : (c : After-firrozka_carry_out-a) → c.firrozka_carry_out-a.result.bytes ≤ length c.args.between.now
size-inside c =
    let a = c.args in
    let inside = carry_inside a.sheet.now a.first.now (length a.between.now) in
    omega (arith, ap (λ (r : WrittenAnswer). r.bytes) c.firrozka_carry_out-a.ensures.answer, inside)

pub returns : goal.returns
returns c =
    let e = c.firrozka_carry_out-a.ensures in
    let f = c.firrozka_carry_out-b.ensures in
    record {
      first = e.answer;
      between = e.bytes;
      second = f.answer;
      next = f.bytes;
      halves = handed-on _ _ _ _ _ _ _ _ _ e.answer e.bytes f.answer f.bytes;
    }

pub slice_bounds-firrozka_carry_out-end : goal.slice_bounds-firrozka_carry_out-end
slice_bounds-firrozka_carry_out-end c =
    omega (arith, size-inside (goal.at.slice_bounds-firrozka_carry_out-end c).After-firrozka_carry_out-a)

pub slice_bounds-firrozka_carry_out-end-2 : goal.slice_bounds-firrozka_carry_out-end-2
slice_bounds-firrozka_carry_out-end-2 c =
    sym (length-take-le _ _ (omega (arith, size-inside (goal.at.slice_bounds-firrozka_carry_out-end-2 c).After-firrozka_carry_out-a)))
