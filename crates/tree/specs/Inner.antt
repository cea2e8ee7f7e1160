-- What the inner functions of this crate ask of each other. No promise to a caller rests on these definitions.
use Rattle.std.specs.Prelude.{◌≡◌, true, List, ℕ, zero, suc, ◌≤◌, ◌<◌}
use Rattle.plan.specs.Tree.{walk}
use Rattle.tree.specs.Family.{helps}
use Rattle.arrays.specs.Arrays.{at}

-- the tree below n has fewer than so many levels
unfoldable pub Shallow : ℕ → (ℕ → ℕ) → ℕ → ℕ → Type 0
Shallow nodes h zero n = ⊥
Shallow nodes h (suc depth) n = (k : ℕ) → k < nodes → helps h n k ≡ true → Shallow nodes h depth k

-- one pass down a tree from n, with an array that is passed along: `after` has the right entry of n and of each node below n, it has lost
-- no right entry that `before` had, and its entries behind the nodes are as they were
pub record Descended (nodes : ℕ) (h right : ℕ → ℕ) (n : ℕ) (before after : List ℕ) : Type 0 where
  pub below : (j steps : ℕ) → j < nodes → walk h steps j ≡ n → at after j ≡ right j
  pub kept : (j : ℕ) → j < nodes → at before j ≡ right j → at after j ≡ right j
  pub behind : (j : ℕ) → nodes ≤ j → at after j ≡ at before j
