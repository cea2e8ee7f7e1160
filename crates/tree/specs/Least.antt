-- Document 01, 'Weighing'.
use Rattle.std.specs.Prelude.{ℕ, zero, suc, ◌-◌, Bool, leb}
use Rattle.fold.specs.Sum.{only, sum}
use Rattle.fold.specs.All.{all}
use Rattle.tree.specs.Family.{helps}

-- "An owner's least is its count less what all its helpers can spare, and never below 0." Helpers are looked for so many levels down.
unfoldable pub least_within : ℕ → (ℕ → ℕ) → (ℕ → ℕ) → ℕ → ℕ → ℕ → ℕ
least_within nodes h total limit zero n = 0
least_within nodes h total limit (suc depth) n =
    total n - sum nodes (λ k. let spare = limit - least_within nodes h total limit depth k in only (helps h n k) spare)

-- "What a helper can spare is L less its least, or 0 if its least is above L."
abbrev pub spare_within : ℕ → (ℕ → ℕ) → (ℕ → ℕ) → ℕ → ℕ → ℕ → ℕ
spare_within nodes h total limit depth k = limit - least_within nodes h total limit depth k

-- the least of a node: no tree of so many nodes has more levels
abbrev pub least : ℕ → (ℕ → ℕ) → (ℕ → ℕ) → ℕ → ℕ → ℕ
least nodes h total limit n = least_within nodes h total limit (suc nodes) n

-- "The tree holds if no least is above L."
abbrev pub holds : ℕ → (ℕ → ℕ) → (ℕ → ℕ) → ℕ → Bool
holds nodes h total limit = all nodes (λ n. leb (least nodes h total limit n) limit)
