-- A family that is filled by its level has what one particle after another would give. Assumes nothing.
use mathlib.Core.Path.{◌≡◌, sym, ap, ap₂, ◌∙◌, subst}
use mathlib.Core.List.{List}
use Prim.Native.Nat.{ℕ, ◌+◌, ◌-◌, ◌<◌}
use native.Mathlib.Omega.{arith}
use Rattle.arrays.specs.Arrays.{at, tabulate}
use Rattle.arrays.proofs.Tabulate.{tabulate-eq}
use Rattle.sheet.specs.Table.{held}
use Rattle.shares.specs.Fill.{fill}
use Rattle.shares.specs.Shares.{beside, divided}
use Rattle.shares.specs.Inner.{Noted, over, Somewhere, Lowest, gets}
use Rattle.shares.proofs.Terms.{spaces_in, keeps_in, rooms_in, rest_in, divided_in, amounts_now, rooms_now, filled_in}
use Rattle.shares.proofs.Spaces.{family_own, family_helper, family_other, each-node, space-other, rooms_are}
use Rattle.shares.proofs.FillLaws.{fill-level}
use Rattle.shares.proofs.Amounts.{family_up_to, divided-kept}

-- the level's amounts are noted, and they are those
module _ (nodes limit : ℕ) (helpands reserves : List ℕ) (r own rest n : ℕ) (before after : List ℕ) (level left : ℕ)
    {room : ℕ} (o : room ≡ limit - r - own) where
  abbrev rooms : ℕ → ℕ
  rooms = rooms_now limit helpands reserves n room before

  abbrev filled : ℕ → ℕ
  filled = filled_in nodes limit helpands reserves r own rest n before

  by_level : Lowest nodes rooms rest level → (k : ℕ) → k < nodes
      → filled k ≡ amounts_now helpands n own before k + gets rooms level (rest - over nodes rooms level) k
  by_level =
      subst (λ (rs : ℕ → ℕ). Lowest nodes rs rest level → (k : ℕ) → k < nodes
      → filled k ≡ amounts_now helpands n own before k + gets rs level (rest - over nodes rs level) k)
      (sym (ap (λ (x : ℕ). rooms_now limit helpands reserves n x before) o ∙ rooms_are limit helpands reserves n r own before))
      (fill-level nodes (beside (at reserves) r n) (spaces_in limit helpands reserves r n) (amounts_now helpands n own before) rest limit
      level (family_up_to nodes (at helpands) limit (at reserves) r n))

  pub level-noted : Lowest nodes rooms rest level → left ≡ rest - over nodes rooms level
      → Noted (at helpands) n (λ k. at before k + gets rooms level left k) nodes before after
      → Noted (at helpands) n filled nodes before after
  level-noted p e q =
      record {
        helper = λ k l y.
            q.helper k l y
            ∙ ap₂ (λ (x z : ℕ). x + gets rooms level z k) (sym (family_helper (at helpands) n own (at before) k y)) e
            ∙ sym (by_level p k l);
        other = q.other;
      }

-- ---- where what is kept was noted before, the amounts are those that the spaces give

module _ (nodes limit : ℕ) (helpands reserves totals table : List ℕ) (r n : ℕ) (before kept : List ℕ)
    (p : Noted (at helpands) n (keeps_in limit helpands reserves table r n) nodes before kept) where
  abbrev keeps : ℕ → ℕ
  keeps = keeps_in limit helpands reserves table r n

  abbrev amounts : ℕ → ℕ
  amounts = divided_in nodes limit helpands reserves totals table r n

  -- what is kept, as it is noted now
  now-kept : {own : ℕ} → own ≡ keeps n → (k : ℕ) → k < nodes → amounts_now helpands n own kept k ≡ keeps k
  now-kept {own} o =
      each-node (at helpands) n (λ k. k < nodes → amounts_now helpands n own kept k ≡ keeps k)
      (λ l. family_own (at helpands) n own (at kept) ∙ o)
      (λ k y l. family_helper (at helpands) n own (at kept) k y ∙ p.helper k l y)
      (λ k d y l. omega (
        arith,
        family_other (at helpands) n own (at kept) k d y,
        space-other (at helpands) limit (at reserves) r n k d y,
      ))

  -- a room that is somewhere is so there
  pub kept_somewhere : {own most : ℕ} → own ≡ keeps n → Somewhere nodes (rooms_in limit helpands reserves table r n) most
      → Somewhere nodes (rooms_now limit helpands reserves n (limit - r - own) kept) most
  kept_somewhere {own} o q =
      record {
        node = q.node;
        inside = q.inside;
        there =
            omega (
              arith,
              q.there,
              ap (λ (f : ℕ → ℕ). f q.node) (rooms_are limit helpands reserves n r own kept),
              now-kept o q.node q.inside,
            );
      }

  -- there is no rest
  pub kept-noted : rest_in nodes limit helpands reserves totals table r n ≡ 0 → Noted (at helpands) n amounts nodes before kept
  kept-noted e =
      record {
        helper = λ k l y.
            p.helper k l y
            ∙ sym (divided-kept nodes (beside (at reserves) r n) (spaces_in limit helpands reserves r n) (at totals n)
            (λ j. held table j n) e k l);
        other = p.other;
      }

  -- the rest is filled in
  pub filled-noted : {own rest : ℕ} {after : List ℕ} → own ≡ keeps n → rest ≡ rest_in nodes limit helpands reserves totals table r n
      → Noted (at helpands) n (filled_in nodes limit helpands reserves r own rest n kept) nodes kept after
      → Noted (at helpands) n amounts nodes before after
  unfolding divided
  filled-noted {own} {rest} o e q =
      record {
        helper = λ k l y. q.helper k l y ∙ ap₂ (λ (xs : List ℕ) (x : ℕ). at (fill nodes (beside (at reserves) r n) spaces xs x) k) same e;
        other = λ k z. q.other k z ∙ p.other k z;
      }
    where
      spaces : ℕ → ℕ
      spaces = spaces_in limit helpands reserves r n

      same : tabulate nodes (amounts_now helpands n own kept) ≡ tabulate nodes keeps
      same = tabulate-eq nodes (amounts_now helpands n own kept) keeps (now-kept o)
