-- Document 01, *Read plan*: "gives N, kind, L", and its refusals 11 to 18, from the list of a plan's bytes.
use Rattle.std.specs.Prelude.{ℕ, ◌+◌, ◌*◌, List, Bool, ◌||◌, ◌&&◌, not, length, get_or, ltb, leb, eqb, Err, Ok, Result}
use Rattle.limit.specs.Limit.{max_nodes, max_limit, one_to}
use Rattle.words.specs.Checks.{refuse_if}
use Rattle.words.specs.Words.{words, part}
use Rattle.plan.specs.Tree.{helpands_below, shape_fine, shares_fine}
use Rattle.plan.specs.declared.PlanRefusal.{PlanRefusal}
use Rattle.plan.specs.declared.PlanRefusal.TheVariants.{Short, Nodes, Kind as OfKind, Limit, Length, Helpand, Shape, Share}
use Rattle.plan.specs.Kinds.{kind_number}
use Rattle.plan.specs.declared.PlanAnswer.{PlanAnswer}
use Rattle.arrays.specs.Arrays.{at}
use Rattle.plan.specs.declared.Plan.{Plan}

-- ---- answers: "An answer carries 0 or a refusal number, and the values named. A refusal's other values are all 0"

abbrev pub refused : ℕ → PlanAnswer
refused k = record { refusal = k; n = 0; kind = 0; limit = 0 }

abbrev pub accepted : ℕ → ℕ → ℕ → PlanAnswer
accepted n kind limit = record { refusal = 0; n = n; kind = kind; limit = limit }

-- the paper's number of each refusal
abbrev pub refusal_number : PlanRefusal → ℕ
refusal_number Short = 11
refusal_number Nodes = 12
refusal_number OfKind = 13
refusal_number Limit = 14
refusal_number Length = 15
refusal_number Helpand = 16
refusal_number Shape = 17
refusal_number Share = 18

-- the paper's number and values for each case of the enum
abbrev pub answer_of : Result Plan PlanRefusal → PlanAnswer
answer_of (Ok p) = accepted p.n (kind_number p.kind) p.limit
answer_of (Err r) = refused (refusal_number r)

-- ---- the record: "Plan: N, kind, limit; N helpands; N shares."

abbrev pub helpands_of : List ℕ → ℕ → List ℕ
helpands_of s n = part 3 n (words s)

abbrev pub shares_of : List ℕ → ℕ → List ℕ
shares_of s n = part (3 + n) n (words s)

-- ---- the checks, in the order written

-- 13: "kind above 2, or not 0 with N = 1"
abbrev pub kind_fine : ℕ → ℕ → Bool
kind_fine n kind = leb kind 2 && (eqb kind 0 || not (eqb n 1))

-- 16 to 18, each over all nodes before the next begins
unfoldable pub arrays_answer : List ℕ → ℕ → ℕ → ℕ → PlanAnswer
arrays_answer s n kind limit =
    refuse_if (not (helpands_below n (at (helpands_of s n)))) (refused 16)
    (refuse_if (not (shape_fine n kind (at (helpands_of s n)))) (refused 17)
    (refuse_if (not (shares_fine n limit (at (helpands_of s n)) (at (shares_of s n)))) (refused 18)
    (accepted n kind limit)))

-- 12 to 15, with the words N, kind and limit of a plan of at least 12 bytes
unfoldable pub head_answer : List ℕ → ℕ → ℕ → ℕ → PlanAnswer
head_answer s n kind limit =
    refuse_if (not (one_to max_nodes n)) (refused 12)
    (refuse_if (not (kind_fine n kind)) (refused 13)
    (refuse_if (ltb max_limit limit) (refused 14)
    (refuse_if (not (eqb (length s) (4 * (3 + 2 * n)))) (refused 15)
    (arrays_answer s n kind limit))))

unfoldable pub read_plan : List ℕ → PlanAnswer
read_plan s =
    refuse_if (ltb (length s) 12) (refused 11)
    (head_answer s (get_or (words s) 0 0) (get_or (words s) 1 0) (get_or (words s) 2 0))
