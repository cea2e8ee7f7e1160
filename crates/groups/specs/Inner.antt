-- What the inner functions of this crate ask of each other. No promise to a caller rests on these definitions.
use Rattle.std.specs.Prelude.{◌≡◌, ◌≢◌, true, cond, List, [], ◌∷◌, ◌++◌, ℕ, ◌+◌, ◌*◌, ◌≤◌, ◌<◌, eqb, length, replicate}
use Rattle.std.proofs.lemmas.List.Edits.{sets}
use Rattle.fold.specs.Collect.{collect}
use Rattle.limit.specs.Limit.{max_nodes}
use Rattle.arrays.specs.Arrays.{at}
use Rattle.words.specs.Words.{encode}
use Rattle.plan.specs.Tree.{reaches}
use Rattle.groups.specs.declared.colour.Colour.{Colour}
use Rattle.groups.specs.declared.colour.Colour.TheVariants.{Even, Odd}
use Rattle.groups.specs.Colour.{distance}
use Rattle.groups.specs.Group.{has_helper, none}

-- every chain of helpands leads from a node to a root: so it is in a plan of any kind
pub record Rooted (nodes : ℕ) (h : ℕ → ℕ) : Type 0 where
  pub few : nodes ≤ max_nodes
  pub inside : (k : ℕ) → k < nodes → h k < nodes
  pub reach : (k : ℕ) → k < nodes → reaches h nodes k ≡ true

-- no chain of 64 nodes is followed so far: it stands for a distance that is not known yet
abbrev pub unknown : ℕ
unknown = 65

-- distances, some of them not known yet; those of the roots are
pub record Known (nodes : ℕ) (h : ℕ → ℕ) (known : List ℕ) : Type 0 where
  pub size : length known ≡ max_nodes
  pub right : (k : ℕ) → k < nodes → at known k ≢ unknown → at known k ≡ distance nodes h k
  pub root : (k : ℕ) → k < nodes → h k ≡ k → at known k ≢ unknown

-- all distances
abbrev pub Distances : ℕ → (ℕ → ℕ) → List ℕ → Type 0
Distances nodes h distances = (k : ℕ) → k < nodes → at distances k ≡ distance nodes h k

-- the name of a node's own group
abbrev pub own_group : ℕ → (ℕ → ℕ) → ℕ → ℕ
own_group nodes h n = cond (has_helper nodes h n) n none

-- the name of the group that node k is a helper in, where its helpand is g
abbrev pub helped_group : ℕ → ℕ → ℕ
helped_group g k = cond (eqb g k) none g

abbrev pub OwnGroups : ℕ → (ℕ → ℕ) → List ℕ → Type 0
OwnGroups nodes h own = (n : ℕ) → n < nodes → at own n ≡ own_group nodes h n

-- the distance of node k was noted, and none that was known is lost
pub record Noted (nodes : ℕ) (h : ℕ → ℕ) (k : ℕ) (before after : List ℕ) : Type 0 where
  pub known : Known nodes h after
  pub noted : at after k ≢ unknown
  pub kept : (j : ℕ) → at before j ≢ unknown → at after j ≢ unknown

-- what is worked out before a group is looked up
pub record Groupable (nodes : ℕ) (h : ℕ → ℕ) (distances own : List ℕ) : Type 0 where
  pub rooted : Rooted nodes h
  pub each_distance : Distances nodes h distances
  pub each_own : OwnGroups nodes h own

-- a buffer into which the entries of the nodes below k, in each colour, were stored behind the first word
abbrev pub with_entries : ℕ → (Colour → ℕ → ℕ) → ℕ → List ℕ → List ℕ
with_entries nodes entry k out =
    sets (sets out 4 (encode (collect k (λ j. entry Even j ∷ [])))) (4 * (1 + nodes)) (encode (collect k (λ j. entry Odd j ∷ [])))

-- the record of n nodes without a group
unfoldable pub no_groups : ℕ → List ℕ
no_groups n = encode ((n ∷ []) ++ replicate n none ++ replicate n none)
