-- Request 2026-06: "each family with a helper is a group, coloured by whether its owner's distance from the root is even or odd." Of the
-- helpands h of so many nodes.
use Rattle.std.specs.Prelude.{◌≡◌, ◌≢◌, Bool, true, cond, ◌&&◌, ◌||◌, ℕ, ◌<◌, eqb, ltb}
use Rattle.tree.specs.Family.{helps, over_helpers}
use Rattle.groups.specs.declared.colour.Colour.{Colour}
use Rattle.groups.specs.Colour.{distance, coloured}

-- "each family with a helper": the family of n has one
abbrev pub has_helper : ℕ → (ℕ → ℕ) → ℕ → Bool
has_helper nodes h n = ltb 0 (over_helpers nodes h n (λ k. 1))

-- the family of n is a group of this colour
abbrev pub is_group : ℕ → (ℕ → ℕ) → Colour → ℕ → Bool
is_group nodes h c n = has_helper nodes h n && coloured c (distance nodes h n)

-- "a group is named by its owner, 64 is none"
abbrev pub none : ℕ
none = 64

-- "each node's group": in this colour that is its own family or its helpand's
abbrev pub group_in : ℕ → (ℕ → ℕ) → Colour → ℕ → ℕ
group_in nodes h c k = cond (is_group nodes h c k) k (cond (is_group nodes h c (h k)) (h k) none)

-- ---- who belongs together

-- k belongs to the family of n: "An owner and its helpers are a family."
abbrev pub belongs : (ℕ → ℕ) → ℕ → ℕ → Bool
belongs h n k = eqb k n || helps h n k

-- k is in the group of n, which is of this colour
abbrev pub in_group : ℕ → (ℕ → ℕ) → Colour → ℕ → ℕ → Bool
in_group nodes h c n k = is_group nodes h c n && belongs h n k

-- j and k "belong to one family of that colour"
pub record OneFamily (nodes : ℕ) (h : ℕ → ℕ) (c : Colour) (j k : ℕ) : Type 0 where
  pub owner : ℕ
  pub node : owner < nodes
  pub colour : coloured c (distance nodes h owner) ≡ true
  pub first : belongs h owner j ≡ true
  pub second : belongs h owner k ≡ true

-- j and k "share an entry other than 64"
pub record ShareEntry (entry : ℕ → ℕ) (j k : ℕ) : Type 0 where
  pub same : entry j ≡ entry k
  pub some : entry j ≢ none
