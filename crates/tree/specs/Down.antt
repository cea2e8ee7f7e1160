-- Shares "from the root down", by any way to fill a family: fill r n k is what node k gets of subdomain n, whose owner has share r.
use Rattle.std.specs.Prelude.{◌≡◌, ◌≢◌, cond, ℕ, zero, suc, ◌<◌}
use Rattle.plan.specs.Tree.{is_root}

-- "Rn is n's share, 0 for the root": and for each other node what it gets of its helpand's subdomain, once its helpand's share is known.
-- The root is looked for so many levels up.
unfoldable pub down : (ℕ → ℕ) → (ℕ → ℕ → ℕ → ℕ) → ℕ → ℕ → ℕ
down h fill zero k = 0
down h fill (suc depth) k =
    let r = down h fill depth (h k) in
    cond (is_root h k) 0 (fill r (h k) k)

-- the same with no word of a depth
pub record Descends (nodes : ℕ) (h : ℕ → ℕ) (fill : ℕ → ℕ → ℕ → ℕ) (share : ℕ → ℕ) : Type 0 where
  pub root : (k : ℕ) → k < nodes → h k ≡ k → share k ≡ 0
  pub helper : (k : ℕ) → k < nodes → h k ≢ k → share k ≡ fill (share (h k)) (h k) k
