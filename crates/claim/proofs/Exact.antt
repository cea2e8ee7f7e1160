-- Demand 3 with buffers just long enough: the plan and the moves are read back as what was decided, the decision keeps a tree exactly when
-- a division within the limit exists, and the moves carry out what is due. Assumes nothing.
use mathlib.Core.Path.{◌≡◌, sym, ap, ◌∙◌}
use mathlib.Core.Logic.{◌≢◌, ◌⊎◌, inl, inr, ⊎_elim, ◌↔◌}
use mathlib.Core.Bool.{Bool, true, false}
use mathlib.Core.List.{List}
use Prim.Native.Nat.{ℕ, ◌-◌, ◌≤◌, ◌<◌}
use native.Mathlib.Omega.{arith}
use borrow.Author.Tests.{lt-leb}
use lib.Dec.{leb}
use lib.ListN.{length, take, replicate}
use lib.Seq.{get_or-take, take_at}
use Rattle.fold.proofs.Tests.{all_fails}
use Rattle.limit.specs.Limit.{limit_of}
use Rattle.arrays.specs.Arrays.{padded, at}
use Rattle.arrays.proofs.Padded.{padded-same}
use Rattle.sheet.specs.declared.SheetAnswer.{SheetAnswer}
use Rattle.sheet.specs.Sheet.{read_sheet}
use Rattle.sheet.specs.Table.{table_in, held}
use Rattle.sheet.specs.Totals.{totals_in}
use Rattle.sheet.proofs.Accepted.{sheet-accepted}
use Rattle.plan.specs.Plan.{read_plan, helpands_of, shares_of}
use Rattle.plan.specs.Kinds.{kind_number}
use Rattle.plan.proofs.Accepted.{plan-accepted, helpands_are}
use Rattle.moves.specs.declared.MovesAnswer.{MovesAnswer}
use Rattle.moves.specs.Moves.{read_moves, routes_of, counts_of}
use Rattle.tree.specs.Primary.{primary}
use Rattle.transfer.specs.Apply.{carried}
use Rattle.rebuild.specs.Target.{target_of}
use Rattle.decide.specs.declared.Decision.{Decision}
use Rattle.decide.proofs.Decided.{KeptFine, RebuiltFine}
use Rattle.decide.proofs.Demanded.{Demanded, decided-alone, decided_demanded}
use Rattle.planner.specs.declared.StepAnswer.{StepAnswer}
use Rattle.planner.specs.Step.{OldAnswer, old_read, read_old, old_helpands, decision_in, plan_in, decided_routes, decided_counts, moves_in, step_answer, plan_after, moves_after, StepReadBack}
use Rattle.planner.proofs.Ways.{old_empty, old-primary, old-tree}
use Rattle.planner.proofs.Facts.{given, decision}
use Rattle.planner.proofs.ReadBack.{Plannable, was_read, records_back, carries, done-step, plan-front, moves_front}
use Rattle.words.specs.declared.WrittenAnswer.{WrittenAnswer}
use Rattle.carry.specs.Carry.{next_table, next_sheet, carry_answer, next_after}
use Rattle.carry.proofs.Checks.{Carriable}
use Rattle.carry.proofs.ReadBack.{carries_out, next_back, next-front}
use Rattle.claim.specs.Claim.{Overloaded, AcceptedTree, NoTree, Rival, Balanced, Claim}
use Rattle.claim.proofs.Agree.{tree_agree, within_agree, target_agree, due_agree}

-- ---- the old plan, as the demand has it and as it is read

not_empty : (o : List ℕ) → (read_plan o).refusal ≡ 0 → length o ≢ 0
not_empty o e z = omega (arith, (plan-accepted o e).size)

tree-read : (s o : List ℕ) → AcceptedTree s o → read_old o (read_sheet s).n ≡ old_read true
tree-read s o t =
    let p = plan-accepted o t.accepted in
    sym (old-tree o (read_sheet s).n (not_empty o t.accepted) _ _ _ (sym p.answer) t.nodes t.kind)

none_read : (s o : List ℕ) → NoTree s o → read_old o (read_sheet s).n ≡ old_read false
none_read s o (inl e) = sym (old_empty o (read_sheet s).n e)
none_read s o (inr t) =
    let p = plan-accepted o t.accepted in
    sym (old-primary o (read_sheet s).n (not_empty o t.accepted) _ _ _ (sym p.answer) t.nodes t.kind)

-- so planning gets past the old plan
pub plannable : (s o : List ℕ) → Overloaded s → AcceptedTree s o ⊎ NoTree s o → Plannable s o
plannable s o over t =
    let refusal : OldAnswer → ℕ = λ a. a.refusal in
    record { sheet = over.accepted; old = ⊎_elim (λ a. ap refusal (tree-read s o a)) (λ n. ap refusal (none_read s o n)) t }

-- ---- what was planned

module _ {s o : List ℕ} (over : Overloaded s) (y : Plannable s o) where
  abbrev n₀ : ℕ
  n₀ = (read_sheet s).n

  abbrev limit : ℕ
  limit = (read_sheet s).limit

  abbrev totals : ℕ → ℕ
  totals = at (totals_in s)

  abbrev d : Decision
  d = decision_in s o

  abbrev tree : Bool
  tree = (read_old o n₀).tree

  abbrev old : List ℕ
  old = old_helpands o tree n₀

  abbrev plan : List ℕ
  plan = plan_in s o

  pub back : StepReadBack s o plan (moves_in s o)
  back = records_back y

  -- a tree is needed
  needed : primary n₀ totals limit ≡ false
  needed =
      let n = over.above.0 in
      all_fails n₀ (λ k. leb (totals k) limit) n over.above.1 (lt-leb (totals n) limit over.above.2)

  pub limit_is : limit ≡ limit_of (read_sheet s).p n₀ (read_sheet s).t
  limit_is = (sheet-accepted s over.accepted).limit_is

  pub needed_here : primary n₀ totals (limit_of (read_sheet s).p n₀ (read_sheet s).t) ≡ false
  needed_here = ap (primary n₀ totals) (sym limit_is) ∙ needed

  with_tree : tree ≡ true → Demanded n₀ (read_sheet s).p limit (totals_in s) old d
  with_tree e =
      let g = given (was_read y) in
      rw (decision (was_read y), limit_is)
      (decided_demanded n₀ (read_sheet s).p (read_sheet s).t (table_in s) (totals_in s) tree old g needed_here e)

  without : tree ≡ false → RebuiltFine n₀ (read_sheet s).p (totals_in s) d
  without e =
      let g = given (was_read y) in
      rw (decision (was_read y), limit_is)
      (decided-alone n₀ (read_sheet s).p (read_sheet s).t (table_in s) (totals_in s) tree old g needed_here e)

  -- ---- the plan as it is read has the helpands and shares that were decided

  helpands-same : (k : ℕ) → k < n₀ → at d.helpands k ≡ at (helpands_of plan n₀) k
  helpands-same k l = sym (ap (λ (xs : List ℕ). at xs k) back.helpands ∙ get_or-take n₀ d.helpands k 0 l)

  shares-same : (k : ℕ) → k < n₀ → at d.shares k ≡ at (shares_of plan n₀) k
  shares-same k l = sym (ap (λ (xs : List ℕ). at xs k) back.shares ∙ get_or-take n₀ d.shares k 0 l)

  -- ---- an accepted tree is the old one that was decided on

  module _ (t : AcceptedTree s o) where
    pub has-tree : tree ≡ true
    has-tree = ap (λ (x : OldAnswer). x.tree) (tree-read s o t)

    old_is : old ≡ padded (helpands_of o n₀)
    old_is = rw has-tree

    pub old-at : at old ≡ at (helpands_of o n₀)
    old-at = ap at old_is ∙ padded-same (helpands_of o n₀)

    kept_exactly : (kind_number d.kind ≡ 1) ↔ Rival s o
    kept_exactly = rw old-at at (with_tree has-tree).kept

    pub same-helpands : kind_number d.kind ≡ 1 → helpands_of plan n₀ ≡ helpands_of o n₀
    same-helpands k =
        let long = helpands_are o (read_plan o) (plan-accepted o t.accepted) in
        let size = ap (λ (m : ℕ). length (helpands_of o m)) (sym t.nodes) ∙ long ∙ t.nodes in
        back.helpands
        ∙ ap (take n₀) (((with_tree has-tree).kept_division k).helpands ∙ old_is)
        ∙ take_at (helpands_of o n₀) (replicate (64 - length (helpands_of o n₀)) 0) n₀ size

  no_tree : NoTree s o → tree ≡ false
  no_tree t = ap (λ (x : OldAnswer). x.tree) (none_read s o t)

  -- ---- the moves as they are read, carried out

  abbrev moves : List ℕ
  moves = moves_in s o

  pub routes_are : routes_of moves (read_moves moves).e ≡ decided_routes s o
  routes_are = ap (λ (a : MovesAnswer). routes_of moves a.e) back.moves_read ∙ back.routes

  pub counts_are : counts_of moves (read_moves moves).e ≡ decided_counts s o
  counts_are = ap (λ (a : MovesAnswer). counts_of moves a.e) back.moves_read ∙ back.counts

  pub carriable : Carriable s moves
  carriable =
      record {
        sheet = over.accepted;
        moves = ap (λ (a : MovesAnswer). a.refusal) back.moves_read;
        nodes = sym (ap (λ (a : MovesAnswer). a.n) back.moves_read);
        within = rw (routes_are, counts_are) (carries y).within;
      }

  pub next-table : next_table s moves ≡ carried (table_in s) (decided_routes s o) (decided_counts s o)
  next-table = rw (routes_are, counts_are)

  -- ---- the demand of the three records

  module _ (t : AcceptedTree s o ⊎ NoTree s o) where
    -- kept or rebuilt, whichever it is
    kept_way : kind_number d.kind ≡ 1 → KeptFine n₀ limit (totals_in s) old d
    kept_way k = ⊎_elim (λ a. (with_tree (has-tree a)).kept_division k) (λ n. absurd (omega (arith, k, (without (no_tree n)).kind))) t

    rebuilt_way : kind_number d.kind ≡ 2 → RebuiltFine n₀ (read_sheet s).p (totals_in s) d
    rebuilt_way k = ⊎_elim (λ a. (with_tree (has-tree a)).rebuilt_division k) (λ n. without (no_tree n)) t

    pub balanced : Balanced s o plan (next_sheet s moves) (kind_number d.kind)
    balanced =
        let h = at d.helpands in
        let h' = at (helpands_of plan n₀) in
        let share = at d.shares in
        let share' = at (shares_of plan n₀) in
        let next = next_back carriable in
        record {
          plan_read = back.plan_read;
          kept = kept_exactly;
          none = λ n. (without (no_tree n)).kind;
          otherwise = ⊎_elim (λ a. (with_tree (has-tree a)).otherwise) (λ n. inr (without (no_tree n)).kind) t;
          kept_helpands = λ k. ⊎_elim (λ a. same-helpands a k) (λ n. absurd (omega (arith, k, (without (no_tree n)).kind))) t;
          kept_division = λ k. within_agree n₀ h h' helpands-same totals share share' shares-same limit (kept_way k).within;
          rebuilt_tree = λ k. let r = (rebuilt_way k).tree in (r.0, tree_agree n₀ h h' helpands-same r.0 r.1);
          rebuilt_division = λ k.
              target_agree n₀ h h' helpands-same totals share share' shares-same (target_of n₀ (read_sheet s).p) (rebuilt_way k).on_target;
          next_read = (ap (λ (a : SheetAnswer). a.refusal) next.read, ap (λ (a : SheetAnswer). a.n) next.read);
          amounts = λ k n lk ln.
              ap (λ (xs : List ℕ). held xs k n) (next.table ∙ next-table)
              ∙ (carries y).reached k n lk ln
              ∙ due_agree n₀ h h' helpands-same totals share share' shares-same n k lk;
        }

-- THEOREM. Buffers as long as the three records are long enough: demand 3 holds of what *plan a step* and then *carry out*, handed the
-- moves just written, answer and write.
pub exact : (s o p m x : List ℕ) → Overloaded s → AcceptedTree s o ⊎ NoTree s o
    → length (plan_in s o) ≤ length p → length (moves_in s o) ≤ length m → length (next_sheet s (moves_in s o)) ≤ length x
    → let a = step_answer s o (length p) (length m) in
    let moves = take a.moves (moves_after s o m (length p)) in
    Claim s o a (carry_answer s moves (length x)) (plan_after s o p (length m)) (next_after s moves x)
exact s o p m x over t f g h =
    let y = plannable s o over t in
    let answer = done-step s o (length p) (length m) y f g in
    let e : (step_answer s o (length p) (length m)).refusal ≡ 0 = ap (λ (a : StepAnswer). a.refusal) answer in
    let kinds : (step_answer s o (length p) (length m)).kind ≡ kind_number (decision_in s o).kind = ap (λ (a : StepAnswer). a.kind) answer in
    let carried = carries_out s (moves_in s o) (length x) (carriable over y) h in
    let q : (carry_answer s (moves_in s o) (length x)).refusal ≡ 0 = ap (λ (c : WrittenAnswer). c.refusal) carried in
    rw (moves_front s o p m e)
    (record {
      planned = e;
      carried = q;
      balanced = rw (plan-front s o p m e, next-front s (moves_in s o) x q, kinds) (balanced over y t);
    })
