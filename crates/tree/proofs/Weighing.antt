-- The leasts of a tree: the remaining depth of their definition drops out. A tree of N nodes has at most N levels below the root, so
-- from depth N + 1 on one more level changes nothing. Assumes nothing.
use mathlib.Core.Path.{◌≡◌, sym, ap, ◌∙◌}
use mathlib.Core.Logic.{◌≢◌}
use mathlib.Core.Bool.{true}
use Prim.Native.Nat.{ℕ, zero, suc, ◌+◌, ◌-◌, ◌≤◌, ◌<◌}
use native.Mathlib.Numerals.{add-one, sub-one}
use native.Mathlib.Omega.{arith}
use lib.Dec.{leb}
use Rattle.fold.specs.All.{all}
use Rattle.plan.specs.Tree.{walk, Tree}
use Rattle.plan.proofs.Trees.{walk_none, walk-suc}
use Rattle.arrays.specs.Arrays.{at, tabulate}
use Rattle.tree.specs.Family.{helps, over_helpers}
use Rattle.tree.specs.Least.{least_within, spare_within, least, holds}
use Rattle.tree.specs.Inner.{Shallow}
use Rattle.tree.proofs.Families.{helps_of, helps-ne, helpers_eq}
use Rattle.arrays.proofs.Tabulate.{tabulate-within}

-- a least is at most the node's own count
pub least-most : (nodes : ℕ) (h total : ℕ → ℕ) (limit n : ℕ) → least nodes h total limit n ≤ total n
unfolding least_within
least-most nodes h total limit n = omega arith

-- ---- how deep a tree is

module _ (nodes : ℕ) (h : ℕ → ℕ) where
  -- what the remaining depth is good for: it is not used up at a node, and one less is enough for the node's helpers
  pub shallow_some : (depth n : ℕ) → Shallow nodes h depth n → depth ≢ 0
  unfolding Shallow
  shallow_some zero n s e = s
  shallow_some (suc depth) n s e = absurd (omega arith)

  pub shallow_helper : (depth n : ℕ) → Shallow nodes h depth n → (k : ℕ) → k < nodes → helps h n k ≡ true → Shallow nodes h (depth - 1) k
  unfolding Shallow
  shallow_helper zero n s = absurd s
  shallow_helper (suc depth) n s = rw sub-one s

  -- where no chain of so many steps ends in n, the tree below n has fewer levels
  pub shallow_of : (depth n : ℕ) → n < nodes → ((j : ℕ) → j < nodes → walk h depth j ≢ n) → Shallow nodes h depth n
  unfolding Shallow
  shallow_of zero n l f = f n l (walk_none h n)
  shallow_of (suc depth) n l f = λ k b e. shallow_of depth k b (λ j c q. f j c (walk-suc h depth j ∙ ap h q ∙ helps_of h n k e))

  -- no helper is the root
  pub root_no_helper : (r : ℕ) → Tree nodes h r → (n k : ℕ) → helps h n k ≡ true → k ≢ r
  root_no_helper r t n k e q = helps-ne h n k e (q ∙ sym t.own ∙ ap h (sym q) ∙ helps_of h n k e)

  tree_shallow : (r : ℕ) → Tree nodes h r → (n : ℕ) → Shallow nodes h (suc nodes) n
  unfolding Shallow
  tree_shallow r t n = λ k b e. shallow_of nodes k b (λ j c q. root_no_helper r t n k e (sym q ∙ t.reach j c))

  -- so much is enough for a pass from the root
  pub root_shallow : {r : ℕ} → Tree nodes h r → Shallow nodes h (nodes + 1) r
  root_shallow {r} t = rw (add-one nodes) (tree_shallow r t r)

-- ---- the equations

module _ (nodes : ℕ) (h total : ℕ → ℕ) (limit : ℕ) where
  -- one more level changes nothing
  steady : (depth n : ℕ) → Shallow nodes h depth n → least_within nodes h total limit (suc depth) n ≡ least_within nodes h total limit depth n
  unfolding Shallow least_within
  steady zero n s = absurd s
  steady (suc depth) n s =
      ap (λ (x : ℕ). total n - x)
      (helpers_eq nodes h n (spare_within nodes h total limit (suc depth)) (spare_within nodes h total limit depth)
      (λ k l e. ap (λ (x : ℕ). limit - x) (steady depth k (s k l e))))

  -- a solution of the equations is the least, where the depth is enough
  solved : (lst : ℕ → ℕ) → ((n : ℕ) → n < nodes → lst n ≡ total n - over_helpers nodes h n (λ k. limit - lst k))
      → (depth n : ℕ) → n < nodes → Shallow nodes h depth n → lst n ≡ least_within nodes h total limit depth n
  unfolding Shallow least_within
  solved lst eqs zero n l s = absurd s
  solved lst eqs (suc depth) n l s =
      eqs n l
      ∙ ap (λ (x : ℕ). total n - x)
      (helpers_eq nodes h n (λ k. limit - lst k) (spare_within nodes h total limit depth)
      (λ k b e. ap (λ (x : ℕ). limit - x) (solved lst eqs depth k b (s k b e))))

  -- what `holds` of the code says of the array of leasts
  pub holds_tabulated : all nodes (λ n. leb (at (tabulate nodes (least nodes h total limit)) n) limit) ≡ holds nodes h total limit
  holds_tabulated = tabulate-within nodes (least nodes h total limit) limit

  module _ (r : ℕ) (t : Tree nodes h r) where
    -- THEOREM. In every tree an owner's least is its count less what all its helpers can spare, and what a helper can spare is the
    -- limit less its least: the equations of document 01, with no word of a depth.
    pub least-is : (n : ℕ) → least nodes h total limit n ≡ total n - over_helpers nodes h n (λ k. limit - least nodes h total limit k)
    unfolding least_within
    least-is n = sym (steady (suc nodes) n (tree_shallow nodes h r t n))

    -- THEOREM. The equations have one solution.
    pub least_unique : (lst : ℕ → ℕ) → ((n : ℕ) → n < nodes → lst n ≡ total n - over_helpers nodes h n (λ k. limit - lst k))
        → (n : ℕ) → n < nodes → lst n ≡ least nodes h total limit n
    least_unique lst eqs n l = solved lst eqs (suc nodes) n l (tree_shallow nodes h r t n)
