-- Document 01, *Weigh*: "takes sheet and plan, writes N words of least under the sheet's limit, and says whether the tree holds."
use Rattle.std.specs.Prelude.{◌≡◌, ℕ, ◌*◌, ◌<◌, List, [], ◌∷◌, Bool, ltb, length, get_or, Err, Ok, Result}
use Rattle.fold.specs.Sum.{only}
use Rattle.fold.specs.Collect.{collect}
use Rattle.words.specs.Checks.{refuse_if, refuse_as}
use Rattle.words.specs.Words.{words, encode}
use Rattle.words.specs.Buffer.{after_call}
use Rattle.sheet.specs.Sheet.{read_sheet}
use Rattle.arrays.specs.Arrays.{at}
use Rattle.plan.specs.Plan.{helpands_of}
use Rattle.sheet.specs.Totals.{totals_in}
use Rattle.tree.specs.Least.{least, holds}
use Rattle.weigh.specs.Checks.{check_number, checked}
use Rattle.weigh.specs.declared.WeighRefusal.{WeighRefusal}
use Rattle.weigh.specs.declared.WeighRefusal.TheVariants.{Check, Buffer}
use Rattle.weigh.specs.declared.WeighAnswer.{WeighAnswer}

-- ---- answers

abbrev pub refused : ℕ → WeighAnswer
refused k = record { refusal = k; holds = 0 }

abbrev pub weighed : Bool → WeighAnswer
weighed b = record { refusal = 0; holds = only b 1 }

-- the paper's number of each refusal: those of the checks up to 24, and "25, buffer under 4N bytes"
abbrev pub number_of : WeighRefusal → ℕ
number_of (Check r) = check_number r
number_of Buffer = 25

-- the paper's number and values for each case, where the refusals have these numbers
abbrev pub answer_in : {R : Type 0} → (R → ℕ) → Result Bool R → WeighAnswer
answer_in number (Ok b) = weighed b
answer_in number (Err r) = refused (number r)

abbrev pub answer_of : Result Bool WeighRefusal → WeighAnswer
answer_of = answer_in number_of

-- ---- what is weighed, for a sheet s and a plan p that are accepted and have the same N

-- "least under the sheet's limit"
abbrev pub least_in : List ℕ → List ℕ → ℕ → ℕ
least_in s p = least (read_sheet s).n (at (helpands_of p (read_sheet s).n)) (at (totals_in s)) (read_sheet s).limit

abbrev pub holds_in : List ℕ → List ℕ → Bool
holds_in s p = holds (read_sheet s).n (at (helpands_of p (read_sheet s).n)) (at (totals_in s)) (read_sheet s).limit

-- "N words of least"
unfoldable pub least_bytes : List ℕ → List ℕ → List ℕ
least_bytes s p = encode (collect (read_sheet s).n (λ k. least_in s p k ∷ []))

-- ---- the checks, in the order written, with a buffer of so many bytes

unfoldable pub weigh_answer : List ℕ → List ℕ → ℕ → WeighAnswer
weigh_answer s p size =
    refuse_as refused (checked s p)
    (refuse_if (ltb size (4 * (read_sheet s).n)) (refused 25)
    (weighed (holds_in s p)))

-- the buffer afterwards
abbrev pub weigh_bytes : List ℕ → List ℕ → List ℕ → List ℕ
weigh_bytes s p out = after_call (weigh_answer s p (length out)).refusal (least_bytes s p) out

-- ---- demand 2, of an accepted call: the N words in front of the buffer are the leasts

pub record LeastsReadBack (s p buffer : List ℕ) : Type 0 where
  pub leasts : (k : ℕ) → k < (read_sheet s).n → get_or (words buffer) k 0 ≡ least_in s p k
