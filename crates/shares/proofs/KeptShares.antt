-- Theorem 3: the shares in a tree that holds are a division within the limit, whoever held the particles before. An owner's share leaves
-- it space for its least, so its family has space for all of its subdomain, with holds where it can afford them and with leasts otherwise,
-- and all of the rest is given. Assumes nothing.
use mathlib.Core.Path.{◌≡◌, refl, sym, ap, ◌∙◌}
use mathlib.Core.Logic.{◌⊎◌, inl, inr}
use mathlib.Core.Bool.{Bool, true, false}
use mathlib.Core.List.{List}
use Prim.Native.Nat.{ℕ, ◌+◌, ◌-◌, ◌≤◌, ◌<◌, min}
use native.Mathlib.Decide.{dec_lt}
use native.Mathlib.Omega.{arith}
use Rattle.fold.specs.Sum.{sum}
use Rattle.fold.proofs.Sums.{sum-eq}
use Rattle.fold.proofs.Tests.{either}
use Rattle.plan.specs.Tree.{Tree}
use Rattle.sheet.specs.Table.{held}
use Rattle.tree.specs.Family.{helps, over_helpers}
use Rattle.tree.specs.Down.{Descends}
use Rattle.tree.specs.Division.{WithinLimit, own_of}
use Rattle.arrays.specs.Arrays.{at}
use Rattle.tree.proofs.Filling.{Fills, family_room, share-spare, helpers_most, own-filled, descends_within, down_descends, descends_only, descends_at, descends_same}
use Rattle.shares.specs.Hold.{hold, affords, reserve, OwnInPlace}
use Rattle.shares.specs.Shares.{space, member_space, amount, kept_share, kept_shares}
use Rattle.shares.specs.Levelled.{part_of, RestLevelled}
use Rattle.shares.proofs.Spaces.{family_own, family_helper, family_other, each-node, space-own, space-helper, space-other, space-sum, space-eq}
use Rattle.shares.proofs.Holds.{reserve-hold, reserve-least, reserve_more, hold-suffices}
use Rattle.shares.proofs.Amounts.{amount_up_to, amount-space, amount-keeps, amount-levelled, amount-whole}
use Rattle.arrays.proofs.Tabulate.{tabulate-at}
use Rattle.sheet.specs.Totals.{total_of, totals_of}

-- ---- the shares are those that document 01 describes, with no word of a depth

module _ (nodes : ℕ) (h : ℕ → ℕ) (limit : ℕ) (least total : ℕ → ℕ) (held : ℕ → ℕ → ℕ) (root : ℕ) (t : Tree nodes h root) where
  -- THEOREM. The share is 0 for the root, and for each other node its amount in its helpand's family, with its helpand's share.
  pub shares_described : Descends nodes h (amount nodes h limit least total held) (kept_share nodes h limit least total held)
  shares_described = down_descends nodes h (amount nodes h limit least total held) root t

  -- THEOREM. There are no others.
  pub shares-only : (share : ℕ → ℕ) → Descends nodes h (amount nodes h limit least total held) share
      → (k : ℕ) → k < nodes → share k ≡ kept_share nodes h limit least total held k
  shares-only = descends_only nodes h (amount nodes h limit least total held) root t

-- ---- a tree that holds, with its leasts, and holdings that add up to the totals

pub record Holding (nodes : ℕ) (h : ℕ → ℕ) (limit : ℕ) (least total : ℕ → ℕ) (held : ℕ → ℕ → ℕ) : Type 0 where
  pub leasts : (n : ℕ) → n < nodes → least n ≡ total n - over_helpers nodes h n (λ k. limit - least k)
  pub holds : (n : ℕ) → n < nodes → least n ≤ limit
  pub adds : (n : ℕ) → n < nodes → sum nodes (λ k. held k n) ≡ total n

-- ---- what is shown of the shares

pub record KeptWithin (nodes : ℕ) (h : ℕ → ℕ) (limit : ℕ) (least total : ℕ → ℕ) (held : ℕ → ℕ → ℕ) (share : ℕ → ℕ) : Type 0 where
  -- they are a rival's division
  pub within : WithinLimit nodes h total limit (own_of nodes h total share) share
  -- what a plan needs to be written
  pub root : (k : ℕ) → k < nodes → h k ≡ k → share k ≡ 0
  pub most : (k : ℕ) → k < nodes → share k ≤ limit
  -- an owner's part is exact: nothing is cut off at 0
  pub enough : (n : ℕ) → n < nodes → over_helpers nodes h n share ≤ total n
  -- no member gets more than its space, and what it holds already it keeps, up to its space
  pub own_space : (n : ℕ) → n < nodes → own_of nodes h total share n ≤ limit - share n
  pub own_keeps : (n : ℕ) → n < nodes → min (limit - share n) (held n n) ≤ own_of nodes h total share n
  pub helper_space : (n k : ℕ) → k < nodes → helps h n k ≡ true → share k ≤ limit - reserve nodes h limit least total held (share n) n k
  pub helper_keeps : (n k : ℕ) → k < nodes → helps h n k ≡ true
      → min (limit - reserve nodes h limit least total held (share n) n k) (held k n) ≤ share k

module _ {nodes : ℕ} {h : ℕ → ℕ} {limit : ℕ} {least total : ℕ → ℕ} {held : ℕ → ℕ → ℕ} (t : Holding nodes h limit least total held) where
  -- THEOREM. A helper whose share is at most the limit less its hold can still keep its own family within the limit, by the leasts: hold is
  -- at least least.
  pub hold_leaves : (k r : ℕ) → k < nodes → r ≤ limit - hold limit least held k → total k ≤ sum nodes (space h limit least r k)
  hold_leaves k r l s =
      omega (
        arith,
        family_room nodes h total limit least k r (t.leasts k l) (t.holds k l) (omega arith),
        space-sum h limit least r k nodes l,
      )

  -- a family has space for all of its subdomain, with holds or with leasts
  family_space : (n r : ℕ) → n < nodes → r ≤ limit - least n → total n ≤ sum nodes (member_space nodes h limit least total held r n)
  family_space n r l s = by (either afforded)
    where
      afforded : Bool
      afforded = affords nodes h limit (hold limit least held) total r n

      spaces : (ℕ → ℕ) → ℕ → ℕ
      spaces reserves = space h limit reserves r n

      -- the same reserves give the same spaces
      same : (reserves : ℕ → ℕ) → ((k : ℕ) → reserve nodes h limit least total held r n k ≡ reserves k)
          → sum nodes (member_space nodes h limit least total held r n) ≡ sum nodes (spaces reserves)
      same reserves e =
          let used = reserve nodes h limit least total held r n in
          sum-eq nodes (spaces used) (spaces reserves) (λ k b. space-eq h limit used reserves r n k (e k))

      by : (afforded ≡ true) ⊎ (afforded ≡ false) → total n ≤ sum nodes (member_space nodes h limit least total held r n)
      by (inl e) =
          omega (
            arith,
            (hold-suffices nodes h limit least total held r n l t.holds (omega arith)).0 e,
            same (hold limit least held) (reserve-hold nodes h limit least total held r n e),
          )
      by (inr e) =
          omega (
            arith,
            family_room nodes h total limit least n r (t.leasts n l) (t.holds n l) s,
            space-sum h limit least r n nodes l,
            same least (reserve-least nodes h limit least total held r n e),
          )

  -- the amounts fill each family
  fills : Fills nodes h total limit least (amount nodes h limit least total held)
  fills =
      record {
        owner = λ r n.
            omega (
              arith,
              amount-space nodes h limit least total held r n n,
              space-own h limit (reserve nodes h limit least total held r n) r n,
            );
        helper = λ r n k y.
            omega (
              arith,
              amount-space nodes h limit least total held r n k,
              space-helper h limit (reserve nodes h limit least total held r n) r n k y,
              reserve_more nodes h limit least total held r n k,
            );
        whole = λ r n l s. amount-whole nodes h limit least total held r n l (t.adds n l) (family_space n r l s);
      }

  -- THEOREM 3. Shares from the root down in a tree that holds are a division within the limit, and keep in place what they can.
  pub kept-shares : (share : ℕ → ℕ) → Descends nodes h (amount nodes h limit least total held) share
      → KeptWithin nodes h limit least total held share
  kept-shares share s =
      record {
        within = descends_within fills s;
        root = s.root;
        most = λ k l. omega (arith, share-spare fills s k l);
        enough = helpers_most fills s;
        own_space = λ n l. omega (arith, own-filled fills s n l, fills.owner (share n) n);
        own_keeps = λ n l.
            omega (
              arith,
              own-filled fills s n l,
              amount-keeps nodes h limit least total held (share n) n n l,
              space-own h limit (reserve nodes h limit least total held (share n) n) (share n) n,
            );
        helper_space = λ n k l y.
            omega (
              arith,
              descends_at s n k (share n) l y refl,
              amount-space nodes h limit least total held (share n) n k,
              space-helper h limit (reserve nodes h limit least total held (share n) n) (share n) n k y,
            );
        helper_keeps = λ n k l y.
            omega (
              arith,
              descends_at s n k (share n) l y refl,
              amount-keeps nodes h limit least total held (share n) n k l,
              space-helper h limit (reserve nodes h limit least total held (share n) n) (share n) n k y,
            );
      }

  -- ---- request 2026-03, by the shares alone

  module _ (share : ℕ → ℕ) (s : Descends nodes h (amount nodes h limit least total held) share) where
    -- what a node has of subdomain n is its amount
    part-is : (n : ℕ) → n < nodes → (k : ℕ) → k < nodes
        → part_of nodes h total share n k ≡ amount nodes h limit least total held (share n) n k
    part-is n l =
        let own = own_of nodes h total share n in
        each-node h n (λ k. k < nodes → part_of nodes h total share n k ≡ amount nodes h limit least total held (share n) n k)
        (λ b. family_own h n own share ∙ own-filled fills s n l)
        (λ k y b. family_helper h n own share k y ∙ sym (descends_at s n k (share n) b y refl))
        (λ k d y b. omega (
          arith,
          family_other h n own share k d y,
          amount-space nodes h limit least total held (share n) n k,
          space-other h limit (reserve nodes h limit least total held (share n) n) (share n) n k d y,
        ))

    -- THEOREM. No member that was given a particle stands more than one above a member that still has space, nor at all above one of
    -- lower number.
    pub rest-levelled : RestLevelled nodes h limit least total held share
    rest-levelled =
        record {
          near = λ n j k c.
              let a = amount-levelled nodes h limit least total held (share n) n in
              let pj = part-is n c.owner j c.one in
              let pk = part-is n c.owner k c.other in
              omega (arith, a.near j k c.one c.other (omega (arith, pj, c.given)) (omega (arith, pk, c.has_space)), pj, pk);
          ties = λ n j k c b.
              let a = amount-levelled nodes h limit least total held (share n) n in
              let pj = part-is n c.owner j c.one in
              let pk = part-is n c.owner k c.other in
              omega (arith, a.ties j k c.one b (omega (arith, pj, c.given)) (omega (arith, pk, c.has_space)), pj, pk);
        }

-- ---- request 2026-07, by the shares alone

-- THEOREM. Each helper of a family that can afford the holds has of its own subdomain at least what it held already, capped at the limit.
pub own_in_place : {nodes : ℕ} {h : ℕ → ℕ} {limit : ℕ} {least total : ℕ → ℕ} {held : ℕ → ℕ → ℕ} {share : ℕ → ℕ}
    → KeptWithin nodes h limit least total held share → OwnInPlace nodes h limit least total held share
own_in_place {nodes} {h} {limit} {least} {total} {held} {share} w n k l b y e =
    omega (arith, w.own_keeps k b, w.helper_space n k b y, reserve-hold nodes h limit least total held (share n) n e k)

-- ---- as a program has it: the array of shares of a table of counts, on which the totals are counted

module _ (nodes root limit : ℕ) (helpands leasts totals table : List ℕ) (t : Tree nodes (at helpands) root)
    (e : totals ≡ totals_of nodes table)
    (f : (n : ℕ) → n < nodes → at leasts n ≡ at totals n - over_helpers nodes (at helpands) n (λ k. limit - at leasts k))
    (g : (n : ℕ) → n < nodes → at leasts n ≤ limit) where
  abbrev arrayed : List ℕ
  arrayed = kept_shares nodes (at helpands) limit (at leasts) (at totals) (held table)

  counted : Holding nodes (at helpands) limit (at leasts) (at totals) (held table)
  counted =
      record {
        leasts = f;
        holds = g;
        adds = λ n l. sym (ap (λ (xs : List ℕ). at xs n) e ∙ tabulate-at nodes (total_of nodes table) n l);
      }

  descended : Descends nodes (at helpands) (amount nodes (at helpands) limit (at leasts) (at totals) (held table)) (at arrayed)
  descended =
      descends_same (shares_described nodes (at helpands) limit (at leasts) (at totals) (held table) root t) (at arrayed) t.inside
      (tabulate-at nodes (kept_share nodes (at helpands) limit (at leasts) (at totals) (held table)))

  -- THEOREM 3
  pub table-shares : KeptWithin nodes (at helpands) limit (at leasts) (at totals) (held table) (at arrayed)
  table-shares = kept-shares counted (at arrayed) descended

  -- and the rest is levelled
  pub table-levelled : RestLevelled nodes (at helpands) limit (at leasts) (at totals) (held table) (at arrayed)
  table-levelled = rest-levelled counted (at arrayed) descended

  -- and helpers' own particles are in place
  pub table_in_place : OwnInPlace nodes (at helpands) limit (at leasts) (at totals) (held table) (at arrayed)
  table_in_place = own_in_place table-shares

-- ---- "owners sit at the limit while their helpers idle": no more

module _ {nodes : ℕ} {h : ℕ → ℕ} {limit : ℕ} {least total : ℕ → ℕ} {held : ℕ → ℕ → ℕ} {share : ℕ → ℕ} where
  -- THEOREM. Where an owner was given a particle of the rest and is at the limit, each of its helpers stands at most one below it.
  pub helpers_level : RestLevelled nodes h limit least total held share → (n k : ℕ) → n < nodes → k < nodes → helps h n k ≡ true
      → min (limit - share n) (held n n) < own_of nodes h total share n → share n + own_of nodes h total share n ≡ limit
      → limit ≤ reserve nodes h limit least total held (share n) n k + share k + 1
  helpers_level p n k l b y g e =
      let own = own_of nodes h total share n in
      let reserves = reserve nodes h limit least total held (share n) n in
      let up = amount_up_to nodes h limit least total held (share n) n in
      let part = family_own h n own share in
      let part-k = family_helper h n own share k y in
      let space = space-own h limit reserves (share n) n in
      let space-k = space-helper h limit reserves (share n) n k y in
      elim (dec_lt (share k) (limit - reserves k)) [
        | yes d ↦
            omega (
              arith,
              p.near n n k (record {
                owner = l;
                one = l;
                other = b;
                given = omega (arith, part, space);
                has_space = omega (arith, part-k, space-k);
              }),
              part,
              part-k,
              space,
              space-k,
              up n l (omega (arith, space)),
              up k b (omega (arith, space-k)),
            )
        | no d ↦ omega arith
      ]
