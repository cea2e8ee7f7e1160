-- `run::run` meets its contract: the input is split where the sheet ends. Assumes nothing.
use mathlib.Core.Path.{◌≡◌, sym, ap, ◌∙◌}
use mathlib.Core.List.{List}
use Prim.Native.Nat.{ℕ, ◌-◌, ◌≤◌}
use native.Mathlib.Omega.{arith}
use lib.ListN.{length, take, drop, length-drop}
use lib.Seq.{length-take-le, take_all}
use Rattle.words.specs.Buffer.{placed}
use Rattle.text.specs.Split.{split_at}
use Rattle.text.proofs.Splitting.{split-le}
use Rattle.run.specs.Run.{text_in, run_text}
use Rattle.run.proofs.run.Goals.{After-split-at}
use Rattle.run.proofs.run.Goals as goal

-- the parts before and behind the split
parts_text : (s : List ℕ) (k : ℕ) → k ≡ split_at s → text_in (take k s) (take (length s - k) (drop k s)) ≡ run_text s
unfolding run_text
parts_text s k e =
    let behind = take_all (length s - k) (drop k s) (omega (arith, length-drop k s)) in
    ap (text_in (take k s)) behind ∙ ap (λ (j : ℕ). text_in (take j s) (drop j s)) e

-- the split lies within the input
within : (c : After-split-at) → c.split-at.result ≤ length c.args.input.now
within c = omega (arith, c.split-at.ensures, split-le c.args.input.now)

pub returns : goal.returns
returns c =
    let same = parts_text c.args.input.now c.split-at.result c.split-at.ensures in
    record { size = c.step.ensures.size ∙ ap length same; bytes = c.step.ensures.bytes ∙ ap (λ (x : List ℕ). placed x c.args.out.now) same }

pub slice_bounds-step-end : goal.slice_bounds-step-end
slice_bounds-step-end c = sym (length-take-le _ _ (within (goal.at.slice_bounds-step-end c).After-split-at))

pub slice_bounds-step-count : goal.slice_bounds-step-count
slice_bounds-step-count c = within (goal.at.slice_bounds-step-count c).After-split-at

pub slice_bounds-step-start : goal.slice_bounds-step-start
slice_bounds-step-start c = within (goal.at.slice_bounds-step-start c).After-split-at
