-- `weigh::weigh_read` meets its contract: the buffer is too short, or the leasts are one run of words in front of it. Assumes nothing.
use mathlib.Core.Path.{◌≡◌, sym, ap, ◌∙◌}
use Prim.Native.Nat.{ℕ, ◌≤◌}
use native.Mathlib.Omega.{arith}
use lib.ListN.{length, length-take}
use lib.Seq.{length-take-le}
use Rattle.arrays.proofs.Tabulate.{length-tabulate}
use Rattle.weigh.specs.Weigh.{weighed, least_in}
use Rattle.weigh.proofs.Checks.{facts}
use Rattle.weigh.proofs.Weighed.{ends_short, ends_weighed}
use Rattle.weigh.proofs.weigh_read.Goals.{After-leasts_of-leasts}
use Rattle.weigh.proofs.weigh_read.Goals as goal

pub returns-then-least-nodes : goal.returns-then-least-nodes
returns-then-least-nodes c =
    let e = ends_short c.requires _ c.if-least-nodes.true in
    record { answer = e.0; bytes = e.1 }

pub returns : goal.returns
returns c =
    let e = ends_weighed c.requires _ c.if-least-nodes.false c.leasts_of-leasts.ensures in
    record { answer = ap weighed c.holds.ensures ∙ e.0; bytes = c.put_words.ensures ∙ e.1 }

-- the array is longer than N words
module _ (c : After-leasts_of-leasts) where
  few : c.args.s.n ≤ 64
  few = (facts _ _ _ c.requires).n_high

  long : length c.leasts_of-leasts.result ≡ 64
  long = ap length c.leasts_of-leasts.ensures ∙ length-tabulate c.args.s.n (least_in c.args.sheet.now c.args.plan.now) few

pub slice_bounds-leasts-end : goal.slice_bounds-leasts-end
slice_bounds-leasts-end c =
    let p = (goal.at.slice_bounds-leasts-end c).After-leasts_of-leasts in
    omega (arith, few p, long p)

pub slice_bounds-put_words-end : goal.slice_bounds-put_words-end
slice_bounds-put_words-end c =
    let p = (goal.at.slice_bounds-put_words-end c).After-leasts_of-leasts in
    sym (length-take-le _ _ (omega (arith, few p, long p)))

pub put_words-requires : goal.put_words-requires
put_words-requires c = omega (arith, length-take {A = ℕ}, c.if-least-nodes.false)

pub holds-requires : goal.holds-requires
holds-requires c = (facts _ _ _ c.requires).n_high
