-- `run::write_records` meets its contract: both records were accepted, so they are as long as their heads say, and the arrays read from
-- them give the same text. Assumes nothing.
use mathlib.Core.Path.{◌≡◌, sym, ap, ◌∙◌}
use mathlib.Core.List.{List}
use Prim.Native.Nat.{ℕ, ◌+◌, ◌*◌, ◌≤◌}
use borrow.Author.Rules.{rules}
use native.Mathlib.Omega.{arith}
use lib.ListN.{length, drop, take, replicate}
use lib.Seq.{take_at, length-take-le}
use Rattle.limit.specs.Limit.{table_size}
use Rattle.words.specs.Words.{words, part}
use Rattle.words.specs.Buffer.{placed}
use Rattle.words.proofs.Words.{length_part}
use Rattle.arrays.specs.Arrays.{padded, at}
use Rattle.plan.specs.Plan.{read_plan, helpands_of, shares_of}
use Rattle.plan.proofs.Accepted as plan
use Rattle.moves.specs.Moves.{read_moves}
use Rattle.moves.proofs.Accepted as moves
use Rattle.transfer.specs.Inner.{Allotted}
use Rattle.sheet.specs.Totals.{totals_in}
use Rattle.text.specs.Text.{step_text}
use Rattle.run.proofs.Lines.{moves-few, text_same}
use Rattle.arrays.proofs.Padded.{padded-same}
use Rattle.run.proofs.write_records.Goals.{After-read_words-counts, After-word_number-e, After-word_number-nodes, Start}
use Rattle.run.proofs.write_records.Goals as goal

accepted : (c : Start) → plan.Accepted c.args.plan.now (read_plan c.args.plan.now)
accepted c = plan.plan-accepted c.args.plan.now c.requires.0.plan

moves-accepted : (c : Start) → moves.Accepted c.args.moves.now (read_moves c.args.moves.now)
moves-accepted c = moves.moves-accepted c.args.moves.now c.requires.0.moves

few : (c : Start) → (read_moves c.args.moves.now).e ≤ 4032
few c = moves-few c.args.sheet.now c.args.plan.now c.args.moves.now c.requires.0

nodes-is : (c : After-word_number-nodes) → c.word_number-nodes.result ≡ (read_plan c.args.plan.now).n
nodes-is c =
    let accepted' : plan.Accepted c.args.plan.now (read_plan c.args.plan.now) =
    plan.plan-accepted c.args.plan.now c.requires.0.plan in
    c.word_number-nodes.ensures ∙ sym accepted'.n_is

moves-is : (c : After-word_number-e) → c.word_number-e.result ≡ (read_moves c.args.moves.now).e
moves-is c =
    let moves-accepted' : moves.Accepted c.args.moves.now (read_moves c.args.moves.now) =
    moves.moves-accepted c.args.moves.now c.requires.0.moves in
    c.word_number-e.ensures ∙ sym moves-accepted'.e_is

-- what own_of asks, of arrays that were read
allotted-read : (s p : List ℕ) (n : ℕ) (helpands shares : List ℕ) → n ≡ (read_plan p).n
    → Allotted (read_plan p).n (at (helpands_of p (read_plan p).n)) (at (totals_in s)) (at (shares_of p (read_plan p).n))
    → helpands ≡ padded (part 3 n (words p)) → shares ≡ padded (part (3 + n) n (words p))
    → Allotted n (at helpands) (at (totals_in s)) (at shares)
allotted-read s p n helpands shares e a f g = rw (f, g, padded-same (part 3 n (words p)), padded-same (part (3 + n) n (words p)), e) a

pub own_of-own-requires : goal.own_of-own-requires
own_of-own-requires c =
    let g = c.requires.0 in
    let fine = allotted-read _ _ _ _ _ (nodes-is (goal.at.own_of-own-requires c).After-word_number-nodes) g.allotted c.words_64-helpands.ensures c.words_64-shares.ensures in
    (g.sheet, nodes-is (goal.at.own_of-own-requires c).After-word_number-nodes ∙ g.nodes, fine)

-- N words of the plan, and E of the moves, can be read
words_requires : (c : After-word_number-nodes)
    → (4 * (3 + 2 * c.word_number-nodes.result) ≡ length c.args.plan.now) × (c.word_number-nodes.result ≤ 64)
words_requires c = let a = plan.plan-accepted c.args.plan.now c.requires.0.plan in (omega (arith, nodes-is c, a.size), omega (arith, nodes-is c, a.n_high))

moves_requires : (c : After-word_number-e)
    → (4 * (2 + 2 * c.word_number-e.result) ≡ length c.args.moves.now) × (c.word_number-e.result ≤ 4032)
moves_requires c =
    let a = moves.moves-accepted c.args.moves.now c.requires.0.moves in
    let few' = moves-few c.args.sheet.now c.args.plan.now c.args.moves.now c.requires.0 in
    (omega (arith, moves-is c, a.size), omega (arith, moves-is c, few'))

pub word_number-nodes-requires : goal.word_number-nodes-requires
word_number-nodes-requires c = omega (arith, (accepted (goal.at.word_number-nodes-requires c).Start).size)

pub word_number-kind-requires : goal.word_number-kind-requires
word_number-kind-requires c = omega (arith, (accepted (goal.at.word_number-kind-requires c).Start).size)

pub word_number-limit-requires : goal.word_number-limit-requires
word_number-limit-requires c = omega (arith, (accepted (goal.at.word_number-limit-requires c).Start).size)

pub words_64-helpands-requires : goal.words_64-helpands-requires
words_64-helpands-requires c = let r = words_requires (goal.at.words_64-helpands-requires c).After-word_number-nodes in (omega (arith, r), omega (arith, r))

pub words_64-shares-requires : goal.words_64-shares-requires
words_64-shares-requires c = let r = words_requires (goal.at.words_64-shares-requires c).After-word_number-nodes in (omega (arith, r), omega (arith, r))

pub word_number-e-requires : goal.word_number-e-requires
word_number-e-requires c = omega (arith, (moves-accepted (goal.at.word_number-e-requires c).Start).size)

pub read_words-routes-requires : goal.read_words-routes-requires
read_words-routes-requires c = let r = moves_requires (goal.at.read_words-routes-requires c).After-word_number-e in (omega (arith, r), omega (arith, r))

pub read_words-counts-requires : goal.read_words-counts-requires
read_words-counts-requires c = let r = moves_requires (goal.at.read_words-counts-requires c).After-word_number-e in (omega (arith, r), omega (arith, r))

-- E words stand at the front of each array
front : (ws : List ℕ) (first e : ℕ) {xs : List ℕ} → first + e ≤ length ws → xs ≡ placed (part first e ws) (replicate table_size 0)
    → take e xs ≡ part first e ws
front ws first e l f =
    rw f (take_at (part first e ws) (drop (length (part first e ws)) (replicate table_size 0)) e (length_part first e ws l))

-- each array has room for them
module _ (c : After-read_words-counts) where
  within : (c.word_number-e.result ≤ length c.read_words-routes.result) × (c.word_number-e.result ≤ length c.read_words-counts.result)
  within =
      let few' = moves-few c.args.sheet.now c.args.plan.now c.args.moves.now c.requires.0 in
      let e = c.word_number-e.ensures ∙ sym (moves.moves-accepted c.args.moves.now c.requires.0.moves).e_is in
      let long : (length c.read_words-routes.result ≡ 4096) × (length c.read_words-counts.result ≡ 4096) = search rules in
      (omega (arith, few', e, long.0), omega (arith, few', e, long.1))

pub slice_bounds-routes-end : goal.slice_bounds-routes-end
slice_bounds-routes-end c = (within (goal.at.slice_bounds-routes-end c).After-read_words-counts).0

pub slice_bounds-counts-end : goal.slice_bounds-counts-end
slice_bounds-counts-end c = (within (goal.at.slice_bounds-counts-end c).After-read_words-counts).1

pub slice_bounds-write_step-end : goal.slice_bounds-write_step-end
slice_bounds-write_step-end c = sym (length-take-le _ _ (within (goal.at.slice_bounds-write_step-end c).After-read_words-counts).0)

pub slice_bounds-write_step-end-2 : goal.slice_bounds-write_step-end-2
slice_bounds-write_step-end-2 c = sym (length-take-le _ _ (within (goal.at.slice_bounds-write_step-end-2 c).After-read_words-counts).1)

pub write_step-requires : goal.write_step-requires
write_step-requires c =
    let p = goal.at.write_step-requires c in
    let w = within p.After-read_words-counts in
    let r = length-take-le c.word_number-e.result c.read_words-routes.result w.0 in
    let k = length-take-le c.word_number-e.result c.read_words-counts.result w.1 in
    let n = nodes-is p.After-word_number-nodes in
    let e = moves-is p.After-word_number-e in
    record {
      few = omega (arith, n, (accepted p.Start).n_high);
      same = r ∙ sym k;
      room = omega (arith, n, e, r, (accepted p.Start).n_high, few p.Start, c.requires.1);
    }

pub returns : goal.returns
returns c =
    let p = goal.at.returns c in
    let ws = words c.args.moves.now in
    let e = c.word_number-e.result in
    let is = moves-is p.After-word_number-e in
    let l = moves.words_are c.args.moves.now (read_moves c.args.moves.now) (moves-accepted p.Start) in
    let r = length-take-le e c.read_words-routes.result (within p.After-read_words-counts).0 in
    let same =
    text_same c.args.sheet.now c.args.plan.now c.args.moves.now c.requires.0 _ _ _ _ _ _ _ _ _ (nodes-is p.After-word_number-nodes) is
    c.words_64-helpands.ensures c.words_64-shares.ensures c.own_of-own.ensures
    (front ws 2 e (omega (arith, is, l)) c.read_words-routes.ensures)
    (front ws (2 + e) e (omega (arith, is, l)) c.read_words-counts.ensures)
    (c.word_number-kind.ensures ∙ sym (accepted p.Start).kind_is)
    (c.word_number-limit.ensures ∙ sym (accepted p.Start).limit_is) in
    let length-is = ap (λ (k : ℕ). step_text c.word_number-kind.result c.word_number-limit.result c.word_number-nodes.result
    c.words_64-helpands.result c.words_64-shares.result c.own_of-own.result k
    (take e c.read_words-routes.result) (take e c.read_words-counts.result)) r in
    let whole = length-is ∙ same in
    let w = c.write_step.ensures in
    record { size = w.size ∙ ap length whole; bytes = w.bytes ∙ ap (λ (x : List ℕ). placed x c.args.out.now) whole }
