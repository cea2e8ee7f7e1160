-- `text::split::split` meets its contract: all the input where the header is refused, and its size or all otherwise. Assumes nothing.
use mathlib.Core.Path.{sym, ap, ◌∙◌}
use Prim.Native.Nat.{◌+◌, ◌*◌, min}
use native.Mathlib.Omega.{arith}
use lib.ListN.{length}
use Rattle.sheet.specs.Sheet.{HeaderAnswer, header_of}
use Rattle.sheet.proofs.Answers.{number_more}
use Rattle.text.proofs.Splitting.{split-whole, split-size}
use Rattle.text.proofs.split.split.Goals as goal

-- the header was refused
pub returns-in_default : goal.returns-in_default
returns-in_default c =
    let e = ap (λ (a : HeaderAnswer). a.refusal) (sym (ap header_of c.in_default.is) ∙ c.read_header.ensures) in
    sym (split-whole c.args.input.now (λ z. omega (arith, e, number_more c.in_default.field-0)))

-- the size that the header says, and what there is
pub returns : goal.returns
returns c =
    let s = c.args.input.now in
    let e = split-size s (ap (λ (a : HeaderAnswer). a.refusal) (sym c.in-Ok.ensures)) in
    c.min.ensures ∙ ap (λ (a : HeaderAnswer). min (4 * (3 + 2 * a.e)) (length s)) c.in-Ok.ensures ∙ sym e
