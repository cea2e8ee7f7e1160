use mathlib.Core.Path.{◌≡◌, sym}
use Prim.Native.Nat.{ℕ}
use native.Mathlib.Omega.{arith}
use Rattle.arrays.specs.Arrays.{at}
use Rattle.transfer.specs.Due.{due_with}
use Rattle.arrays.proofs.Tabulate.{tabulate-none, tabulate-next}
use Rattle.transfer.proofs.due.due_amounts.Goals as goal

pub loop-k-init : goal.loop-k-init
loop-k-init c = sym (tabulate-none _)

pub loop-k-preserved : goal.loop-k-preserved
loop-k-preserved c =
    let a = c.args in
    let due : ℕ → ℕ = due_with (at a.helpands.now) (at a.shares.now) a.own a.n in
    tabulate-next due c.loop-k.k c.due_amount.result c.loop-k.due (omega arith) c.loop-k.invariant
    (unfold due_with in c.due_amount.ensures)

pub returns : goal.returns
returns c =
    let e : c.loop-k.k ≡ c.args.nodes = omega arith in
    rw e at c.loop-k.invariant
