use mathlib.Core.Path.{sym, ◌∙◌}
use native.Mathlib.Omega.{arith}
use Rattle.fold.proofs.Tests.{all_none, all_more, all_fails}
use Rattle.limit.specs.Limit.{table_size}
use Rattle.archive.proofs.read.counts_fine.Goals as goal

pub loop-c-init : goal.loop-c-init
loop-c-init c = all_none _

pub returns-then-not-count_fine : goal.returns-then-not-count_fine
returns-then-not-count_fine c =
    sym (all_fails table_size _ c.loop-c.c (omega arith) (sym c.count_fine.ensures ∙ c.if-not-count_fine.true))

pub loop-c-preserved : goal.loop-c-preserved
loop-c-preserved c = all_more c.loop-c.c _ c.loop-c.invariant (sym c.count_fine.ensures ∙ c.if-not-count_fine.false)
