-- The two records that planning writes: worked out from the arrays in the code, they are those of the definitions. Assumes nothing.
use mathlib.Core.Path.{◌≡◌, refl, sym, ap, ◌∙◌}
use mathlib.Core.Bool.{Bool, true}
use mathlib.Core.List.{List}
use Prim.Native.Nat.{ℕ, ◌-◌, ◌*◌, ◌≤◌}
use native.Mathlib.Nat.{mul-le-mul}
use native.Mathlib.Omega.{arith}
use lib.ListN.{length, drop, length-append}
use lib.Seq.{take_at, take_all, take-length}
use Rattle.limit.specs.Limit.{table_size}
use Rattle.fold.specs.Sum.{sum}
use Rattle.words.specs.Buffer.{placed}
use Rattle.sheet.specs.declared.Sheet.{Sheet}
use Rattle.sheet.specs.declared.SheetAnswer.{SheetAnswer}
use Rattle.sheet.specs.Sheet.{read_sheet}
use Rattle.sheet.proofs.Tables.{length-table}
use Rattle.plan.specs.Kinds.{kind_number}
use Rattle.plan.specs.Tree.{helpands_below, Tree}
use Rattle.moves.specs.Write.{moves_bytes}
use Rattle.sheet.specs.Totals.{totals_of}
use Rattle.transfer.specs.Inner.{Allotted}
use Rattle.transfer.specs.Matching.{all_routes, all_counts}
use Rattle.transfer.proofs.Carrying.{Carries, carries_totals}
use Rattle.decide.specs.declared.Decision.{Decision}
use Rattle.decide.specs.Decide.{decided}
use Rattle.planner.specs.declared.StepAnswer.{StepAnswer}
use Rattle.planner.specs.Step.{decision_in, plan_record, plan_in, due_in, moves_record, moves_in}
use Rattle.planner.specs.Inner.{StepRead}
use Rattle.planner.proofs.Ways.{Writes, Ends, ends_written}
use Rattle.planner.proofs.Facts.{table, totals, old, facts, sum-within, given, decision, decision_fine}
use Rattle.arrays.specs.Arrays.{at}

-- moves at the front of two arrays are written as they are
moves-taken : (n : ℕ) (routes counts a b : List ℕ) → length routes ≡ length counts
    → moves_bytes n (length routes) (placed routes a) (placed counts b) ≡ moves_record n routes counts
unfolding moves_bytes
moves-taken n routes counts a b e =
    rw (
      take_at routes (drop (length routes) a) (length routes) refl,
      take_at counts (drop (length counts) b) (length routes) (sym e),
      take-length routes,
      take_all (length routes) counts (omega (arith, e)),
    )

module _ {s o : List ℕ} {h : Sheet} {tree : Bool} (r : StepRead s o h tree) where
  abbrev d₀ : Decision
  d₀ = decision_in s o

  pub allotted : Allotted h.n (at d₀.helpands) (at (totals r)) (at d₀.shares)
  allotted = let f = decision_fine r in record { inside = f.inside; enough = f.enough }

  -- the moves carry out what is due
  pub carries_due : Carries h.n (table r) (due_in h.n (totals r) d₀)
  carries_due =
      carries_totals h.n (table r) (totals r) (at d₀.helpands) (at d₀.shares) (facts r).n_high (length-table s h.e)
      (sum-within r) refl allotted

  -- N × (N−1) is at most the size of the arrays
  pub product_small : h.n * (h.n - 1) ≤ table_size
  product_small =
      let l : h.n ≤ 64 = (facts r).n_high in
      let m : h.n - 1 ≤ 64 = omega (arith, l) in
      mul-le-mul l m

  -- what the code works out before it decides
  pub before_deciding : (t u v : List ℕ) → t ≡ table r → u ≡ totals_of h.n t → v ≡ old r
      → (sum h.n (at u) ≡ h.p) × (helpands_below h.n (at v) ≡ true) × (tree ≡ true → (root : ℕ) × Tree h.n (at v) root)
  before_deciding t u v e f i =
      let g = given r in
      (rw (f, e) g.adds, rw i g.below, rw i g.rooted)

  -- and then: a table, totals, old helpands and a decision
  pub record Here (t u v : List ℕ) (d : Decision) : Type 0 where
    pub table_is : t ≡ table r
    pub totals_is : u ≡ totals_of h.n t
    pub old_is : v ≡ old r
    pub decision_is : d ≡ decided h.n h.p h.limit t u tree v

  module _ {t u v : List ℕ} {d : Decision} (k : Here t u v d) where
    here_totals : u ≡ totals r
    here_totals = k.totals_is ∙ ap (totals_of h.n) k.table_is

    here_decision : d ≡ d₀
    here_decision = k.decision_is ∙ rw (here_totals, k.table_is, k.old_is) (sym (decision r))

    pub here_allotted : Allotted h.n (at d.helpands) (at u) (at d.shares)
    here_allotted = rw (here_decision, here_totals) allotted

    abbrev routes : List ℕ
    routes = all_routes h.n t (due_in h.n u d)

    abbrev counts : List ℕ
    counts = all_counts h.n t (due_in h.n u d)

    here_carries : Carries h.n t (due_in h.n u d)
    here_carries = rw (here_decision, here_totals, k.table_is) carries_due

    pub here_few : length routes ≤ table_size
    here_few = omega (arith, here_carries.accepted.few, product_small)

    -- arrays with the moves at their front have as many entries
    pub here_long : (e : ℕ) (xs ys a b : List ℕ) → e ≡ length routes → xs ≡ placed routes a → ys ≡ placed counts b
        → (e ≤ length xs) × (e ≤ length ys)
    here_long e xs ys a b i j q = (
      omega (arith, ap length j, length-append routes (drop (length routes) a)),
      omega (arith, ap length q, length-append counts (drop (length counts) b), here_carries.accepted.same),
    )

    here_plan : plan_record h.n h.limit d ≡ plan_in s o
    unfolding plan_in
    here_plan = rw (← r.sheet, here_decision)

    here_moves : (xs ys : List ℕ) → xs ≡ routes → ys ≡ counts → moves_record h.n xs ys ≡ moves_in s o
    unfolding moves_in
    here_moves xs ys i j = rw (i, j, ← r.sheet, here_decision, here_totals, k.table_is)

    -- so the answer and the buffers are those of the definitions
    pub here_ends : (xs ys : List ℕ) → xs ≡ routes → ys ≡ counts → (w : StepAnswer) (p m p₁ m₁ : List ℕ)
        → Writes (kind_number d.kind) h.limit (plan_record h.n h.limit d) (moves_record h.n xs ys) p m w p₁ m₁ → Ends s o p m w p₁ m₁
    here_ends xs ys i j w p m p₁ m₁ f =
        let head = r.sheet in
        let kinds : kind_number d.kind ≡ kind_number d₀.kind = ap (λ (x : Decision). kind_number x.kind) here_decision in
        let limits : h.limit ≡ (read_sheet s).limit = ap (λ (x : SheetAnswer). x.limit) head in
        let same : Writes (kind_number d.kind) h.limit (plan_in s o) (moves_in s o) p m w p₁ m₁ = rw (here_plan, here_moves xs ys i j) at f in
        ends_written s o p m h.n (ap (λ (x : SheetAnswer). x.refusal) head) (ap (λ (x : SheetAnswer). x.n) head) tree r.old w p₁ m₁
        (rw (kinds, limits) at same)
