use mathlib.Core.Path.{◌≡◌}
use Prim.Native.Nat.{◌+◌, ◌-◌, ◌≤◌}
use native.Mathlib.Omega.{arith}
use lib.ListN.{length}
use Rattle.text.proofs.Columns.{decimal-some, aligned_right, filling_none, filling_length, filling_more, filling_all}
use Rattle.text.proofs.Writing.{put_one}
use Rattle.text.proofs.put.put_right.Goals as goal

-- there is a last column
pub overflow_sub-last : goal.overflow_sub-last
overflow_sub-last c = omega (arith, c.requires.0, decimal-some c.args.x c.ranges.x.fits)

pub loop-i-init : goal.loop-i-init
loop-i-init c = filling_none c.args.out.now c.args.at (c.args.width - 1) c.args.x

pub loop-i-preserved : goal.loop-i-preserved
loop-i-preserved c =
    let a = c.args in
    rw c.column.ensures (filling_more a.out.now a.at (a.width - 1) a.x c.loop-i.invariant c.loop-i-test.true)

pub returns : goal.returns
returns c =
    let a = c.args in
    let before = filling_all a.out.now a.at (a.width - 1) a.x c.loop-i.invariant (omega (arith, c.loop-i-test.false)) in
    rw (aligned_right a.width a.x c.ranges.x.fits c.requires.0)
    (put_one _ before (omega (arith, c.requires.0, decimal-some a.x c.ranges.x.fits)))

pub bounds-out-at-2 : goal.bounds-out-at-2
bounds-out-at-2 c =
    let a = c.args in
    omega (
      arith,
      c.requires.0,
      c.requires.1,
      decimal-some a.x c.ranges.x.fits,
      filling_length a.out.now a.at (a.width - 1) a.x c.loop-i.invariant,
    )
