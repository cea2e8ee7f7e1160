-- Request 2026-06, groups for the coater's message library: the record and the operation. "Write N, then each node's group in the even
-- colour, then in the odd; a group is named by its owner, 64 is none."
use Rattle.std.specs.Prelude.{◌≡◌, ◌≢◌, ◌⊎◌, ◌↔◌, true, List, [], ◌∷◌, ◌++◌, ℕ, ◌+◌, ◌*◌, ◌<◌, ltb, length, get_or, Result}
use Rattle.fold.specs.Collect.{collect}
use Rattle.arrays.specs.Arrays.{at}
use Rattle.words.specs.Checks.{refuse_if, refuse_as}
use Rattle.words.specs.Words.{words, encode}
use Rattle.words.specs.Buffer.{after_call}
use Rattle.words.specs.Answer.{refused, accepted, answer_of as written_answer_of}
use Rattle.words.specs.declared.WrittenAnswer.{WrittenAnswer}
use Rattle.plan.specs.Plan.{read_plan, helpands_of, refusal_number as plan_number}
use Rattle.groups.specs.declared.colour.Colour.{Colour}
use Rattle.groups.specs.declared.colour.Colour.TheVariants.{Even, Odd}
use Rattle.groups.specs.declared.GroupsRefusal.{GroupsRefusal}
use Rattle.groups.specs.declared.GroupsRefusal.TheVariants.{Plan as OfPlan, Buffer}
use Rattle.groups.specs.Colour.{distance, coloured}
use Rattle.groups.specs.Group.{has_helper, none, group_in, in_group, OneFamily, ShareEntry}

-- ---- answers

-- the paper's number of each refusal: "the plan's, then 57 for a buffer under 4 × (1+2N) bytes"
abbrev pub number_of : GroupsRefusal → ℕ
number_of (OfPlan r) = plan_number r
number_of Buffer = 57

-- the paper's number and values for each case of the enum
abbrev pub answer_of : Result ℕ GroupsRefusal → WrittenAnswer
answer_of = written_answer_of number_of

-- ---- the record

-- each node's group in one colour
abbrev pub groups_in : ℕ → (ℕ → ℕ) → Colour → List ℕ
groups_in nodes h c = collect nodes (λ k. group_in nodes h c k ∷ [])

-- "Write N, then each node's group in the even colour, then in the odd"
unfoldable pub groups_bytes : ℕ → (ℕ → ℕ) → List ℕ
groups_bytes n h = encode ((n ∷ []) ++ groups_in n h Even ++ groups_in n h Odd)

-- its length: "4 × (1+2N) bytes"
abbrev pub groups_size : ℕ → ℕ
groups_size n = 4 * (1 + 2 * n)

-- ---- the operation, on a plan p

-- the groups of an accepted plan
unfoldable pub groups_of : List ℕ → List ℕ
groups_of p = groups_bytes (read_plan p).n (at (helpands_of p (read_plan p).n))

-- the checks, in the order written, with a buffer of so many bytes
unfoldable pub groups_answer : List ℕ → ℕ → WrittenAnswer
groups_answer p size =
    refuse_as refused (read_plan p).refusal
    (refuse_if (ltb size (groups_size (read_plan p).n)) (refused 57)
    (accepted (groups_size (read_plan p).n)))

-- the buffer afterwards
abbrev pub groups_after : List ℕ → List ℕ → List ℕ
groups_after p out = after_call (groups_answer p (length out)).refusal (groups_of p) out

-- ---- demand 2, of an accepted call: the words in front of the buffer

-- node k's entry in a colour, in the groups of n nodes
abbrev pub entry_in : List ℕ → ℕ → Colour → ℕ → ℕ
entry_in buffer n Even k = get_or (words buffer) (1 + k) 0
entry_in buffer n Odd k = get_or (words buffer) (1 + n + k) 0

pub record GroupsReadBack (p buffer : List ℕ) : Type 0 where
  pub nodes : get_or (words buffer) 0 0 ≡ (read_plan p).n
  pub entries : (c : Colour) (k : ℕ) → k < (read_plan p).n
      → entry_in buffer (read_plan p).n c k ≡ group_in (read_plan p).n (at (helpands_of p (read_plan p).n)) c k

-- ---- what the entries of n nodes with the helpands h say, as the request has it and a message library needs it

pub record MessageGroups (n : ℕ) (h : ℕ → ℕ) (entry : Colour → ℕ → ℕ) : Type 0 where
  -- "Two different nodes share an entry other than 64 in a colour exactly when they belong to one family of that colour."
  pub together : (c : Colour) (j k : ℕ) → j < n → k < n → j ≢ k → ShareEntry (entry c) j k ↔ OneFamily n h c j k
  -- a node's entry is the owner of a group exactly when it is in that group: so no node is in two groups of one colour
  pub named : (c : Colour) (m k : ℕ) → m < n → k < n → (entry c k ≡ m) ↔ (in_group n h c m k ≡ true)
  pub alone : (c : Colour) (l m k : ℕ) → k < n → in_group n h c l k ≡ true → in_group n h c m k ≡ true → l ≡ m
  -- an owner with a helper stands in its own group
  pub owner : (c : Colour) (m : ℕ) → m < n → has_helper n h m ≡ true → coloured c (distance n h m) ≡ true → entry c m ≡ m
  -- no entry is anything but a node or 64
  pub node : (c : Colour) (k : ℕ) → k < n → (entry c k < n) ⊎ (entry c k ≡ none)
