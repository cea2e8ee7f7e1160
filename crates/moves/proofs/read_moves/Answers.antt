-- `moves::read_moves` meets its contract: each way out gives the answer of the first check that refuses. Assumes nothing.
use mathlib.Core.Path.{◌≡◌, sym, ◌∙◌}
use mathlib.Core.Bool.{true, not}
use Prim.Native.Nat.{◌+◌, ◌-◌, ◌*◌, ◌≤◌}
use native.Mathlib.Nat.{mul-le-mul}
use native.Mathlib.Omega.{arith}
use lib.Dec.{ltb, eqb}
use lib.ListN.{length}
use borrow.Author.Tests.{lt-ltb, le-ltb, eq-eqb, ne_eqb}
use Rattle.limit.specs.Limit.{max_nodes, one_to}
use Rattle.limit.proofs.Laws.{one-to-is}
use Rattle.moves.specs.Moves.{refused, head_answer, entries_answer, read_moves}
use Rattle.words.specs.Checks.{refuse_if}
use Rattle.moves.proofs.read_moves.Goals.{After-word_number-e, Else-not-one_to}
use Rattle.moves.proofs.read_moves.Goals as goal

-- past the first test: the two words of the header are those of the list
head : (c : After-word_number-e) → read_moves c.args.s.now ≡ head_answer c.args.s.now c.word_number-n.result c.word_number-e.result
unfolding read_moves
head c = simp (le-ltb (length c.args.s.now) 8 (omega arith), ← c.word_number-n.ensures, ← c.word_number-e.ensures)

-- past the test of N
module _ (c : Else-not-one_to) where
  nodes : one_to max_nodes c.word_number-n.result ≡ true
  nodes = sym c.one_to.ensures ∙ c.if-not-one_to.false

  ranges : let s = c.args.s.now in
      let n = c.word_number-n.result in
      let e = c.word_number-e.result in
      head_answer s n e
      ≡ refuse_if (ltb (n * (n - 1)) e) (refused 33)
      (refuse_if (not (eqb (length s) (4 * (2 + 2 * e)))) (refused 34) (entries_answer s n e))
  ranges = rw nodes

pub returns-then-s-lt8 : goal.returns-then-s-lt8
unfolding read_moves
returns-then-s-lt8 c = simp (lt-ltb (length c.args.s.now) 8 (omega arith))

pub returns-then-not-one_to : goal.returns-then-not-one_to
returns-then-not-one_to c =
    sym (head (goal.at.returns-then-not-one_to c).After-word_number-e ∙ rw (sym c.one_to.ensures ∙ c.if-not-one_to.true))

pub overflow_sub-n : goal.overflow_sub-n
overflow_sub-n c = omega (arith, one-to-is max_nodes c.word_number-n.result (nodes (goal.at.overflow_sub-n c).Else-not-one_to))

-- of at most 64 nodes the product fits a word
pub overflow_mul-n : goal.overflow_mul-n
overflow_mul-n c =
    let n = c.word_number-n.result in
    let high : n ≤ max_nodes = omega (arith, one-to-is max_nodes n (nodes (goal.at.overflow_mul-n c).Else-not-one_to)) in
    let less : n - 1 ≤ max_nodes = omega arith in
    omega (arith, mul-le-mul high less)

pub returns-then-n-e : goal.returns-then-n-e
returns-then-n-e c =
    let p = goal.at.returns-then-n-e c in
    let n = c.word_number-n.result in
    sym (head p.After-word_number-e ∙ ranges p.Else-not-one_to ∙ simp (lt-ltb (n * (n - 1)) c.word_number-e.result (omega arith)))

pub returns-then-s-e : goal.returns-then-s-e
returns-then-s-e c =
    let p = goal.at.returns-then-s-e c in
    sym
    (head p.After-word_number-e
    ∙ ranges p.Else-not-one_to
    ∙ simp (le-ltb _ _ c.if-n-e.false, ne_eqb (length c.args.s.now) (4 * (2 + 2 * c.word_number-e.result)) (λ z. omega arith)))

pub read_entries-requires : goal.read_entries-requires
read_entries-requires c = omega (arith, one-to-is max_nodes c.word_number-n.result (nodes (goal.at.read_entries-requires c).Else-not-one_to))

pub returns : goal.returns
returns c =
    let p = goal.at.returns c in
    c.read_entries.ensures
    ∙ sym
    (head p.After-word_number-e
    ∙ ranges p.Else-not-one_to
    ∙ simp (le-ltb _ _ c.if-n-e.false, eq-eqb (length c.args.s.now) (4 * (2 + 2 * c.word_number-e.result)) (omega arith)))
