-- `plan::read_arrays` meets its contract: each check's answer is that of its definition on the words read. Assumes nothing.
use borrow.Author.Rules.{rules}
use mathlib.Core.Path.{sym, ap, ◌∙◌}
use Prim.Native.Nat.{ℕ}
use Rattle.arrays.specs.Arrays.{at}
use Rattle.plan.specs.Tree.{shape_fine}
use Rattle.std.proofs.lemmas.Result.{err_from_is_err_and}
use Rattle.plan.proofs.Checks.{checked-passed, checked_refused}
use Rattle.plan.proofs.Reading.{helpands-read, arrays-read}
use Rattle.plan.proofs.read_arrays.Goals as goal

pub returns-then-not-helpands_below : goal.returns-then-not-helpands_below
returns-then-not-helpands_below c =
    sym (helpands-read _ _ _ _ c.words_64-helpands.ensures ∙ rw (sym c.if-not-helpands_below.ensures))

pub check_shape-requires : goal.check_shape-requires
check_shape-requires c = (search rules, sym c.helpands_below.ensures ∙ c.if-not-helpands_below.false)

pub returns-in_err-check_shape : goal.returns-in_err-check_shape
returns-in_err-check_shape c =
    let p = err_from_is_err_and c.from_residual.result c.from_residual.ensures.1 in
    let f = checked_refused _ c.in_err-check_shape.ensures in
    let shape = ap (λ (w : ℕ). shape_fine c.args.n w (at c.words_64-helpands.result)) (sym c.into.ensures) ∙ f.0 in
    rw (p.1, p.2, f.1) (sym (helpands-read _ _ _ _ c.words_64-helpands.ensures ∙ rw (sym c.if-not-helpands_below.ensures, shape)))

pub returns-then-not-shares_fine : goal.returns-then-not-shares_fine
returns-then-not-shares_fine c =
    let shape = ap (λ (w : ℕ). shape_fine c.args.n w (at c.words_64-helpands.result)) (sym c.into.ensures)
    ∙ checked-passed _ c.in_ok-check_shape.ensures in
    sym (arrays-read _ _ _ _ c.words_64-helpands.ensures c.words_64-shares.ensures ∙ rw (sym c.if-not-helpands_below.ensures, shape, sym c.if-not-shares_fine.ensures))

pub returns : goal.returns
returns c =
    let shape = ap (λ (w : ℕ). shape_fine c.args.n w (at c.words_64-helpands.result)) (sym c.into.ensures)
    ∙ checked-passed _ c.in_ok-check_shape.ensures in
    sym (arrays-read _ _ _ _ c.words_64-helpands.ensures c.words_64-shares.ensures ∙ rw (sym c.if-not-helpands_below.ensures, shape, sym c.if-not-shares_fine.ensures))
