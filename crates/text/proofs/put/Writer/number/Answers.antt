-- `text::put::Writer::number` meets its contract: as many columns as there are digits. Assumes nothing.
use mathlib.Core.Path.{◌≡◌}
use mathlib.Core.List.{List}
use Prim.Native.Nat.{ℕ}
use lib.ListN.{length}
use Rattle.text.specs.declared.put.Writer.{Writer}
use Rattle.text.specs.Columns.{right_aligned}
use Rattle.text.specs.Writer.{Wrote}
use Rattle.text.proofs.Columns.{aligned_exact}
use Rattle.text.proofs.put.Writer.number.Goals as goal

-- as wide as the text is long, it is the text
exact : {a b : Writer} {text : List ℕ} {width : ℕ} → width ≡ length text → Wrote a (right_aligned width text) b → Wrote a text b
exact {a} {b} {text} e p = rw (e, aligned_exact text) at p

pub returns : goal.returns
returns c = exact c.digit_count-width.ensures c.right.ensures
