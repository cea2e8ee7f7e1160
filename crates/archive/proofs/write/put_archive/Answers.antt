use mathlib.Core.Path.{◌≡◌, refl, ap, ◌∙◌}
use mathlib.Core.List.{List, ◌∷◌}
use Prim.Native.Nat.{ℕ, ◌+◌, ◌*◌, ◌<◌}
use native.Mathlib.Omega.{arith}
use lib.ListN.{get_or, set}
use Rattle.limit.specs.Limit.{table_size}
use Rattle.words.specs.Words.{words, encode, put_word}
use Rattle.words.specs.Buffer.{placed}
use Rattle.archive.specs.ZOrder.{position_of}
use Rattle.archive.specs.Archive.{no_counts, archive_bytes}
use Rattle.archive.proofs.Bits.{position-below}
use Rattle.archive.proofs.Storing.{begin, end, index_below, again, put_count}
use Rattle.archive.proofs.write.put_archive.Goals.{After-word_number-c, After-from-p}
use Rattle.archive.proofs.write.put_archive.Goals as goal

pub loop-i-init : goal.loop-i-init
loop-i-init c = (no_counts, begin c.args.s.now c.args.n c.args.e c.requires.0, λ base e. e)

-- the cell that is read is an index of the table
below : (c : After-word_number-c) → c.word_number-c.result < table_size
below c =
    let a = c.args in
    let v = c.loop-i.invariant in
    index_below a.s.now a.n a.e c.requires.0 v.0 c.loop-i.i v.1 c.loop-i-test.true c.word_number-c.result
    (get_or (words a.s.now) (3 + a.e + c.loop-i.i) 0) c.word_number-c.ensures refl

pub bounds-positions-c : goal.bounds-positions-c
bounds-positions-c c = below (goal.at.bounds-positions-c c).After-word_number-c

-- and what is read from the array is its position
is : (c : After-from-p) → c.word_number-c.result < table_size → c.from-p.result ≡ position_of c.word_number-c.result
is c h = c.from-p.ensures ∙ c.positions-positions.ensures c.word_number-c.result h

pub put_word-requires : goal.put_word-requires
put_word-requires c =
    let p = goal.at.put_word-requires c in
    omega (arith, is p.After-from-p (below p.After-word_number-c), position-below c.word_number-c.result, c.requires.1)

pub loop-i-preserved : goal.loop-i-preserved
loop-i-preserved c =
    let a = c.args in
    let l = c.loop-i in
    let v = l.invariant in
    let p = goal.at.loop-i-preserved c in
    let x = c.word_number-c.result in
    let k = c.word_number.result in
    let there : c.put_word.new.out ≡ put_word l.out (4 * (2 + position_of x)) k =
    c.put_word.ensures ∙ ap (λ (q : ℕ). put_word l.out (4 * (2 + q)) k) (is p.After-from-p (below p.After-word_number-c)) in (
      set v.0 (position_of x) k,
      again a.s.now a.n a.e c.requires.0 v.0 l.i v.1 c.loop-i-test.true x k c.word_number-c.ensures c.word_number.ensures,
      λ base e. there
          ∙ ap (λ (o : List ℕ). put_word o (4 * (2 + position_of x)) k) (v.2 base e)
          ∙ put_count base a.n a.t v.0 x k v.1.size,
    )

pub returns : goal.returns
unfolding archive_bytes
returns c =
    let l = c.loop-i in
    let v = l.invariant in
    let a = c.args in
    v.2 a.out.now c.put_empty.ensures
    ∙ ap (λ (xs : List ℕ). placed (encode (a.n ∷ a.t ∷ xs)) a.out.now) (end a.s.now a.n a.e c.requires.0 v.0 l.i v.1 c.loop-i-test.false)
