-- Document 01, *Tree in force*: which stretch of which of the two plans it hands back, from the lists of their bytes alone, and what
-- it is to hand that back "with nothing copied". 'Tree in force' and 'helpand stretch' are document 01's own terms: the helpands that
-- hold after a step, and their bytes in a plan.
use Rattle.std.specs.Prelude.{◌≡◌, ℕ, ◌+◌, ◌*◌, List, Bool, cond, ◌||◌, ◌&&◌, not, take, drop, eqb}
use Rattle.std.specs.Borrow.{Bor}
use Rattle.fold.specs.All.{all}
use Rattle.plan.specs.declared.PlanAnswer.{PlanAnswer}
use Rattle.arrays.specs.Arrays.{at}
use Rattle.plan.specs.Plan.{helpands_of, read_plan}
use Rattle.in_force.specs.declared.PartAnswer.{PartAnswer}

-- so many bytes from a start on, of the old plan or of the new: `of_old start length`
pub data Where : Type 0 where
  of_old : ℕ → ℕ → Where
  of_new : ℕ → ℕ → Where

-- ---- which stretch

-- "If the new kind is 1, it hands back the helpand stretch of the old plan, otherwise that of the new". N, kind and limit stand before
-- the helpands, a word each, so the helpand stretch is bytes 12 to 12 + 4N.
abbrev pub stretch : ℕ → ℕ → Where
stretch n kind = cond (eqb kind 1) (of_old 12 (4 * n)) (of_new 12 (4 * n))

-- "an empty stretch of the new plan"
abbrev pub empty_stretch : Where
empty_stretch = of_new 0 0

abbrev pub is_refused : PlanAnswer → Bool
is_refused a = not (eqb a.refusal 0)

-- "has other helpands": they are compared as numbers, all N of them; limits and shares are not compared
abbrev pub same_helpands : ℕ → (ℕ → ℕ) → (ℕ → ℕ) → Bool
same_helpands n h g = all n (λ k. eqb (h k) (g k))

-- "when either is refused, the N differ, or the new kind is 1 and the old is kind 0 or has other helpands": a and b are what *read
-- plan* answers to the old and the new plan, and `same` says whether they have the same helpands
abbrev pub no_tree : PlanAnswer → PlanAnswer → Bool → Bool
no_tree a b same =
    is_refused a || is_refused b || not (eqb a.n b.n) || (eqb b.kind 1 && (eqb a.kind 0 || not same))

-- "It hands back an empty stretch of the new plan" then, and otherwise the stretch
unfoldable pub in_force : List ℕ → List ℕ → Where
in_force old new =
    let n = (read_plan new).n in
    let same = same_helpands n (at (helpands_of old n)) (at (helpands_of new n)) in
    cond (no_tree (read_plan old) (read_plan new) same) empty_stretch (stretch n (read_plan new).kind)

-- ---- what it is to hand it back

-- r is the n bytes of s from a on, where they lie: the same block of memory, a bytes further, and so with nothing copied
pub record PartOf (r s : Bor (List ℕ)) (a n : ℕ) : Type 0 where
  pub block : r.ref_ptr.0 ≡ s.ref_ptr.0
  pub offset : r.ref_ptr.1 ≡ a + s.ref_ptr.1
  pub holds : r.now ≡ take n (drop a s.now)

-- r is that stretch of the two plans
abbrev pub Points : Where → Bor (List ℕ) → Bor (List ℕ) → Bor (List ℕ) → Type 0
Points (of_old a n) r old new = PartOf r old a n
Points (of_new a n) r old new = PartOf r new a n

-- the stretch in numbers: source 1 is the old plan, 2 the new
abbrev pub part_of : Where → PartAnswer
part_of (of_old a n) = record { source = 1; start = a; length = n }
part_of (of_new a n) = record { source = 2; start = a; length = n }
