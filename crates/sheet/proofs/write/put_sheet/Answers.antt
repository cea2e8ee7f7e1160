use mathlib.Core.Path.{◌≡◌, refl, sym, ap, ◌∙◌}
use mathlib.Core.List.{List, [], ◌∷◌}
use Prim.Native.Nat.{ℕ, ◌+◌, ◌*◌}
use native.Mathlib.Omega.{arith}
use lib.ListN.{length, get_or, length-append, length-map}
use Rattle.fold.specs.Collect.{collect}
use Rattle.words.specs.Words.{encode, put_word}
use Rattle.words.proofs.Buffer.{record_placed}
use Rattle.sheet.specs.Write.{filled, sheet_bytes}
use Rattle.sheet.proofs.Filled.{counts, cell_more, cells_skip, cells-one, store_one}
use Rattle.sheet.proofs.write.put_sheet.Goals.{else-count-ne0, then-count-ne0}
use Rattle.sheet.proofs.write.put_sheet.Goals as goal

pub loop-c-init : goal.loop-c-init
unfolding collect encode
loop-c-init c = (omega arith, refl, refl)

-- there is room for one more entry
pub put_entry-requires : goal.put_entry-requires
put_entry-requires c =
    let more = cell_more c.args.table.now c.args.n c.loop-c.c c.loop-c-test.true c.if-count-ne0.true in
    (omega (arith, more, c.requires.1), omega (arith, ap length c.put_head.ensures))

pub loop-c-preserved : goal.loop-c-preserved
loop-c-preserved c =
    let a = c.args in
    let k = c.loop-c.c in
    let table = a.table.now in
    elim c.if-count-ne0.branch [
      | then-count-ne0 w ↦ let one : length (collect (k + 1) (filled table)) ≡ length (collect k (filled table)) + 1 =
          rw (cells-one table k w.if-count-ne0.true) (length-append (collect k (filled table)) (k ∷ [])) in (
            omega arith,
            omega arith,
            w.out-is
                ∙ w.put_entry.ensures
                ∙ ap (λ (o : List ℕ). put_word (put_word o (4 * (3 + c.loop-c.i)) k) (4 * (3 + a.e + c.loop-c.i)) (get_or table k 0))
                c.loop-c.invariant.2
                ∙ store_one c.put_head.new.out table a.e c.loop-c.i k w.if-count-ne0.true c.loop-c.invariant.1
                (omega (arith, cell_more a.table.now a.n k c.loop-c-test.true w.if-count-ne0.true, c.requires.1)),
          )
      | else-count-ne0 w ↦ (
        omega arith,
        w.i-is ∙ c.loop-c.invariant.1 ∙ sym (ap length (cells_skip table k w.if-count-ne0.false)),
        w.out-is ∙ c.loop-c.invariant.2 ∙ rw (cells_skip table k w.if-count-ne0.false),
      )
    ]

pub returns : goal.returns
unfolding sheet_bytes
returns c =
    let a = c.args in
    let table = a.table.now in
    let xs = collect (64 * a.n) (filled table) in
    let k : c.loop-c.c ≡ 64 * a.n = omega arith in
    let m : length (counts table (64 * a.n)) ≡ length xs = length-map xs (λ c. get_or table c 0) in
    rw k at c.loop-c.invariant.2
    ∙ rw (c.put_head.ensures, c.requires.1)
    (record_placed a.out.now (a.n ∷ a.t ∷ length xs ∷ []) xs (counts table (64 * a.n)) 12 (4 * (3 + length xs)) refl (omega arith)
    (omega (arith, c.requires.1, c.requires.2)))
