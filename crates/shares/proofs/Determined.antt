-- The shares of a kept tree by what is seen of them: a division in which nobody has more than its space or less than it keeps, and in which
-- the rest is levelled. There is no other. Assumes nothing.
use mathlib.Core.Path.{◌≡◌, sym, ◌∙◌}
use Prim.Native.Nat.{ℕ, ◌+◌, ◌≤◌, ◌<◌}
use native.Mathlib.Omega.{arith}
use Rattle.fold.specs.Sum.{sum}
use Rattle.fold.proofs.Sums.{sum-le, sum-add}
use Rattle.plan.specs.Tree.{Tree}
use Rattle.tree.specs.Down.{Descends}
use Rattle.tree.specs.Division.{own_of}
use Rattle.tree.proofs.Families.{helps-helpand, helpers_eq, family_sum}
use Rattle.shares.specs.Fill.{room}
use Rattle.shares.specs.Hold.{reserve}
use Rattle.shares.specs.Shares.{space, beside, kept, rest, amount, kept_share}
use Rattle.shares.specs.Levelled.{part_of, RestLevelled}
use Rattle.shares.proofs.Levelled.{Levelled, levelled-one}
use Rattle.shares.proofs.Spaces.{family_own, family_helper, family_other, each-node, space-own, space-helper, space-other}
use Rattle.shares.proofs.Amounts.{amount-levelled}
use Rattle.shares.proofs.KeptShares.{Holding, KeptWithin, shares-only}

module _ {nodes : ℕ} {h : ℕ → ℕ} {limit : ℕ} {least total : ℕ → ℕ} {held : ℕ → ℕ → ℕ} {share : ℕ → ℕ}
    (t : Holding nodes h limit least total held) (w : KeptWithin nodes h limit least total held share)
    (r : RestLevelled nodes h limit least total held share) where
  -- ---- one family

  module _ (n : ℕ) (l : n < nodes) where
    abbrev part : ℕ → ℕ
    part = part_of nodes h total share n

    abbrev reserves : ℕ → ℕ
    reserves = reserve nodes h limit least total held (share n) n

    abbrev spaces : ℕ → ℕ
    spaces = space h limit reserves (share n) n

    abbrev keeps : ℕ → ℕ
    keeps = kept spaces (λ j. held j n)

    own_is : part n ≡ own_of nodes h total share n
    own_is = family_own h n (own_of nodes h total share n) share

    part-keeps : (k : ℕ) → k < nodes → keeps k ≤ part k
    part-keeps =
        each-node h n (λ k. k < nodes → keeps k ≤ part k)
        (λ b. omega (arith, own_is, space-own h limit reserves (share n) n, w.own_keeps n l))
        (λ k y b. omega (
          arith,
          family_helper h n (own_of nodes h total share n) share k y,
          space-helper h limit reserves (share n) n k y,
          w.helper_keeps n k b y,
        ))
        (λ k d y b. omega (arith, space-other h limit reserves (share n) n k d y))

    part-space : (k : ℕ) → k < nodes → part k ≤ spaces k
    part-space =
        each-node h n (λ k. k < nodes → part k ≤ spaces k)
        (λ b. omega (arith, own_is, space-own h limit reserves (share n) n, w.own_space n l))
        (λ k y b. omega (
          arith,
          family_helper h n (own_of nodes h total share n) share k y,
          space-helper h limit reserves (share n) n k y,
          w.helper_space n k b y,
        ))
        (λ k d y b. omega (arith, family_other h n (own_of nodes h total share n) share k d y))

    -- all particles of the subdomain
    part-sum : sum nodes part ≡ total n
    part-sum =
        omega (
          arith,
          family_sum h n part nodes l (family_other h n (own_of nodes h total share n) share),
          own_is,
          helpers_eq nodes h n part share (λ k b y. family_helper h n (own_of nodes h total share n) share k y),
          w.enough n l,
        )

    part-levelled : Levelled nodes (beside reserves (share n) n) spaces keeps (rest nodes (total n) keeps) part
    part-levelled =
        record {
          keeps = part-keeps;
          fits = λ k b. omega (arith, part-space k b);
          adds =
              omega (
                arith,
                part-sum,
                t.adds n l,
                sum-le nodes keeps (λ k. held k n) (λ k b. omega arith),
                sum-le nodes part (λ k. keeps k + room spaces keeps k) (λ k b. omega (arith, part-space k b)),
                sum-add nodes keeps (room spaces keeps),
              );
          near = λ j k lj lk g s. r.near n j k (record { owner = l; one = lj; other = lk; given = g; has_space = s });
          ties = λ j k lj b g s. r.ties n j k (record { owner = l; one = lj; other = omega arith; given = g; has_space = s }) b;
        }

    part-amount : (k : ℕ) → k < nodes → part k ≡ amount nodes h limit least total held (share n) n k
    part-amount = levelled-one part-levelled (amount-levelled nodes h limit least total held (share n) n)

  -- ---- the tree

  module _ (root : ℕ) (tree : Tree nodes h root) where
    descends : Descends nodes h (amount nodes h limit least total held) share
    descends =
        record {
          root = w.root;
          helper = λ k l d.
              sym (family_helper h (h k) (own_of nodes h total share (h k)) share k (helps-helpand h k d))
              ∙ part-amount (h k) (tree.inside k l) k l;
        }

    -- THEOREM. These shares are those of a kept tree: there are no others that are seen so.
    pub levelled-only : (k : ℕ) → k < nodes → share k ≡ kept_share nodes h limit least total held k
    levelled-only = shares-only nodes h limit least total held root tree share descends
