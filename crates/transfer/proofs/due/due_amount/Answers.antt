-- `transfer::due::due_amount` meets its contract: one law for each of the three ways. Assumes nothing.
use mathlib.Core.Path.{sym}
use Rattle.transfer.proofs.Dues.{due-owner, due-helper, due-other}
use Rattle.transfer.proofs.due.due_amount.Goals as goal

pub returns-then-k-n : goal.returns-then-k-n
returns-then-k-n c = sym (due-owner _ _ _ _ _ c.if-k-n.true)

pub returns-then-helpand-n : goal.returns-then-helpand-n
returns-then-helpand-n c = sym (due-helper _ _ _ _ _ c.if-k-n.false c.if-helpand-n.true)

pub returns-else-helpand-n : goal.returns-else-helpand-n
returns-else-helpand-n c = sym (due-other _ _ _ _ _ c.if-k-n.false c.if-helpand-n.false)
