use mathlib.Core.Path.{◌≡◌, sym, ◌∙◌}
use native.Mathlib.Nat.{div-le_self}
use native.Mathlib.Omega.{arith}
use Rattle.rebuild.specs.Target.{target_of}
use Rattle.arrays.proofs.Tabulate.{tabulate-none, tabulate-next}
use Rattle.rebuild.proofs.TargetSums.{target-low, target-high}
use Rattle.rebuild.proofs.targets.Goals.{else-k-rest, then-k-rest}
use Rattle.rebuild.proofs.targets.Goals as goal

pub loop-k-init : goal.loop-k-init
loop-k-init c = sym (tabulate-none _)

pub loop-k-preserved : goal.loop-k-preserved
loop-k-preserved c =
    let a = c.args in
    let k = c.loop-k.k in
    let target : c.if-k-rest.out ≡ target_of a.nodes a.p k =
    elim c.if-k-rest.branch [
      | then-k-rest w ↦ w.out-is ∙ sym (target-low a.nodes a.p k w.if-k-rest.true)
      | else-k-rest w ↦ w.out-is ∙ sym (target-high a.nodes a.p k w.if-k-rest.false)
    ] in
    tabulate-next (target_of a.nodes a.p) k c.if-k-rest.out c.loop-k.out (omega arith) c.loop-k.invariant target

pub returns : goal.returns
returns c =
    let e : c.loop-k.k ≡ c.args.nodes = omega arith in
    rw e at c.loop-k.invariant

pub overflow_add-out : goal.overflow_add-out
overflow_add-out c = omega (arith, div-le_self c.args.p c.args.nodes)
