-- What the members of one family get: laws of `divided` and of `amount`. They rest on what `fill` promises, in whatever order it fills.
-- Assumes nothing.
use mathlib.Core.Path.{◌≡◌}
use mathlib.Core.Bool.{Bool, true, false, cond}
use Prim.Native.Nat.{ℕ, ◌+◌, ◌-◌, ◌≤◌, ◌<◌, min}
use native.Mathlib.Omega.{arith}
use lib.Dec.{eqb}
use Rattle.fold.specs.Sum.{only, sum}
use Rattle.fold.proofs.Sums.{sum-le, sum-eq, sum-add, sum_fewer}
use Rattle.tree.specs.Family.{helps, over_helpers}
use Rattle.tree.proofs.Families.{helpers_more}
use Rattle.shares.specs.Fill.{room}
use Rattle.shares.specs.Hold.{reserve}
use Rattle.shares.specs.Shares.{in_family, space, beside, kept, rest, divided, member_space, member_beside, amount}
use Rattle.shares.proofs.Spaces.{family_part}
use Rattle.shares.proofs.Levelled.{Levelled, levelled-one, levelled-eq}
use Rattle.shares.proofs.LevelForm.{UpTo}
use Rattle.shares.proofs.FillLaws.{levelled, fill-space, fill-keeps, fill_none, fill-sum}

-- "L − Rn at n itself, and L − least at each helper", or L − hold: whoever has space is at the limit once it is full
pub family_up_to : (nodes : ℕ) (h : ℕ → ℕ) (limit : ℕ) (reserves : ℕ → ℕ) (r n : ℕ)
    → UpTo limit nodes (beside reserves r n) (space h limit reserves r n)
unfolding space in_family beside
family_up_to nodes h limit reserves r n k l = each (eqb k n) (helps h n k)
  where
    each : (own help : Bool) → 0 < cond own (limit - r) (only help (limit - reserves k))
        → cond own r (reserves k) + cond own (limit - r) (only help (limit - reserves k)) ≡ limit
    each true help g = omega arith
    each false true g = omega arith
    each false false g = absurd (omega arith)

module _ (h : ℕ → ℕ) (limit : ℕ) (reserves holding : ℕ → ℕ) (r n : ℕ) where
  abbrev spaces : ℕ → ℕ
  spaces = space h limit reserves r n

  abbrev keeps : ℕ → ℕ
  keeps = kept (space h limit reserves r n) holding

  -- what all members keep
  pub kept-sum : (nodes : ℕ) → n < nodes → sum nodes keeps ≡ keeps n + over_helpers nodes h n keeps
  kept-sum = family_part h limit reserves r n keeps (λ k. omega arith)

  -- what one helper more keeps is still there
  pub kept-left : (nodes k : ℕ) → n < nodes → k < nodes → helps h n k ≡ true
      → keeps n + over_helpers k h n keeps + keeps k ≤ sum nodes holding
  kept-left nodes k l b y =
      omega (
        arith,
        helpers_more h n keeps k y,
        sum_fewer (k + 1) nodes (λ j. only (helps h n j) (keeps j)) (omega arith),
        kept-sum nodes l,
        sum-le nodes keeps holding (λ j c. omega arith),
      )

-- ---- any spaces

module _ (nodes : ℕ) (beside spaces : ℕ → ℕ) (total : ℕ) (holding : ℕ → ℕ) where
  abbrev parts : ℕ → ℕ
  parts = divided nodes beside spaces total holding

  abbrev keep : ℕ → ℕ
  keep = kept spaces holding

  -- nobody gets more than its space, or less than it keeps
  divided-space : (k : ℕ) → parts k ≤ spaces k
  unfolding divided
  divided-space k = fill-space nodes beside spaces keep (rest nodes total keep) k (omega arith)

  divided-keeps : (k : ℕ) → k < nodes → min (spaces k) (holding k) ≤ parts k
  unfolding divided
  divided-keeps k l = fill-keeps nodes beside spaces keep (rest nodes total keep) k l

  -- the parts are levelled
  divided-levelled : Levelled nodes beside spaces keep (rest nodes total keep) parts
  unfolding divided
  divided-levelled = levelled nodes beside spaces keep (rest nodes total keep)

  -- where there is no rest, each has what it keeps
  pub divided-kept : rest nodes total keep ≡ 0 → (k : ℕ) → k < nodes → parts k ≡ keep k
  unfolding divided
  divided-kept e k l = rw e (fill_none nodes beside spaces keep k l)

  -- and all is given, where there is space for it
  divided-whole : sum nodes holding ≡ total → total ≤ sum nodes spaces → sum nodes parts ≡ total
  unfolding divided
  divided-whole e f =
      let under = sum-le nodes keep holding (λ k b. omega arith) in
      let rooms = sum-add nodes (room spaces keep) keep in
      let whole = sum-eq nodes (λ k. room spaces keep k + keep k) spaces (λ k b. omega arith) in
      omega (arith, fill-sum nodes beside spaces keep (rest nodes total keep) (omega arith), under)

-- only the spaces of the nodes matter, and what they have beside their amounts
pub divided-same : (nodes : ℕ) (beside beside' spaces spaces' : ℕ → ℕ) (total : ℕ) (holding : ℕ → ℕ)
    → ((k : ℕ) → k < nodes → beside k ≡ beside' k) → ((k : ℕ) → k < nodes → spaces k ≡ spaces' k)
    → (k : ℕ) → k < nodes → divided nodes beside spaces total holding k ≡ divided nodes beside' spaces' total holding k
divided-same nodes beside beside' spaces spaces' total holding b s =
    levelled-one (rw same at (levelled-eq (divided-levelled nodes beside spaces total holding) b s keeps_same))
    (divided-levelled nodes beside' spaces' total holding)
  where
    keeps_same : (k : ℕ) → k < nodes → kept spaces holding k ≡ kept spaces' holding k
    keeps_same k l = omega (arith, s k l)

    same : rest nodes total (kept spaces holding) ≡ rest nodes total (kept spaces' holding)
    same = omega (arith, sum-eq nodes (kept spaces holding) (kept spaces' holding) keeps_same)

-- ---- the family of n

module _ (nodes : ℕ) (h : ℕ → ℕ) (limit : ℕ) (least total : ℕ → ℕ) (held : ℕ → ℕ → ℕ) (r n : ℕ) where
  abbrev given : ℕ → ℕ
  given = amount nodes h limit least total held r n

  abbrev spaced : ℕ → ℕ
  spaced = member_space nodes h limit least total held r n

  abbrev besides : ℕ → ℕ
  besides = member_beside nodes h limit least total held r n

  abbrev keeping : ℕ → ℕ
  keeping = kept spaced (λ j. held j n)

  -- a member that has space is at the limit once it is full
  pub amount_up_to : UpTo limit nodes besides spaced
  amount_up_to = family_up_to nodes h limit (reserve nodes h limit least total held r n) r n

  -- no member gets more than its space, or less than it keeps
  pub amount-space : (k : ℕ) → given k ≤ spaced k
  unfolding amount
  amount-space = divided-space nodes besides spaced (total n) (λ j. held j n)

  pub amount-keeps : (k : ℕ) → k < nodes → min (spaced k) (held k n) ≤ given k
  unfolding amount
  amount-keeps = divided-keeps nodes besides spaced (total n) (λ j. held j n)

  -- they are levelled
  pub amount-levelled : Levelled nodes besides spaced keeping (rest nodes (total n) keeping) given
  unfolding amount
  amount-levelled = divided-levelled nodes besides spaced (total n) (λ j. held j n)

  -- and the members get all, where they have space for it
  pub amount-whole : n < nodes → sum nodes (λ k. held k n) ≡ total n → total n ≤ sum nodes spaced
      → given n + over_helpers nodes h n given ≡ total n
  amount-whole l e f =
      omega (arith, family_part h limit (reserve nodes h limit least total held r n) r n given amount-space nodes l, summed e f)
    where
      summed : sum nodes (λ k. held k n) ≡ total n → total n ≤ sum nodes spaced → sum nodes given ≡ total n
      summed = unfold amount in divided-whole nodes besides spaced (total n) (λ j. held j n)
