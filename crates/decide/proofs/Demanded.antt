-- Demand 3 of a decision, in document 01's words: what is kept and rebuilt, with no word of leasts. Where a tree is needed, an old tree is
-- kept exactly when a division within the limit exists along it. Assumes nothing.
use mathlib.Core.Path.{◌≡◌, sym, ap, ◌∙◌}
use mathlib.Core.Logic.{◌⊎◌, inl, inr, ⊎_elim, ◌↔◌}
use mathlib.Core.Bool.{Bool, true, false, ◌&&◌, true≢false}
use mathlib.Core.List.{List}
use Prim.Native.Nat.{ℕ}
use native.Mathlib.Omega.{arith}
use Rattle.fold.proofs.Tests.{either}
use Rattle.limit.specs.Limit.{limit_of}
use Rattle.arrays.specs.Arrays.{at}
use Rattle.plan.specs.Kinds.{kind_number}
use Rattle.tree.specs.Division.{WithinLimit}
use Rattle.tree.specs.Primary.{primary}
use Rattle.tree.specs.Least.{holds}
use Rattle.tree.proofs.Keeping.{division_iff_holds}
use Rattle.decide.specs.declared.Decision.{Decision}
use Rattle.decide.specs.Decide.{decided}
use Rattle.decide.proofs.Decided.{Given, KeptFine, RebuiltFine, decided-kept, decided-rebuilt}

-- some division within the limit along the old tree, "however it was found"
abbrev pub SomeDivision : ℕ → ℕ → List ℕ → List ℕ → Type 0
SomeDivision nodes limit totals old = (own : ℕ → ℕ) × (share : ℕ → ℕ) × WithinLimit nodes (at old) (at totals) limit own share

pub record Demanded (nodes p limit : ℕ) (totals old : List ℕ) (d : Decision) : Type 0 where
  pub kept : (kind_number d.kind ≡ 1) ↔ SomeDivision nodes limit totals old
  pub otherwise : (kind_number d.kind ≡ 1) ⊎ (kind_number d.kind ≡ 2)
  -- "in kind 1, which has the old helpands, a rival's division"
  pub kept_division : kind_number d.kind ≡ 1 → KeptFine nodes limit totals old d
  -- "in kind 2, one with every load equal to the node's target"
  pub rebuilt_division : kind_number d.kind ≡ 2 → RebuiltFine nodes p totals d

module _ (nodes p t : ℕ) (table totals : List ℕ) (tree : Bool) (old : List ℕ) (g : Given nodes p t table totals tree old)
    (needed : primary nodes (at totals) (limit_of p nodes t) ≡ false) where
  abbrev limit : ℕ
  limit = limit_of p nodes t

  abbrev d : Decision
  d = decided nodes p limit table totals tree old

  -- THEOREM. Without an old tree the new one is on target.
  pub decided-alone : tree ≡ false → RebuiltFine nodes p totals d
  decided-alone e =
      decided-rebuilt nodes p t table totals tree old g needed (ap (λ (b : Bool). b && holds nodes (at old) (at totals) limit) e)

  -- THEOREM. An old tree is kept exactly when a division within the limit exists along it; the plan kept is one, and the plan rebuilt is on
  -- target.
  pub decided_demanded : tree ≡ true → Demanded nodes p limit totals old d
  decided_demanded e =
      record {
        kept = ⊎_elim
            (λ h. ((λ _. rival.1 h), (λ _. (kept h).kind)))
            (λ h. ((λ k. absurd (omega (arith, k, (rebuilt h).kind))), (λ w. absurd (true≢false (sym (rival.0 w) ∙ h)))))
            (either holding);
        otherwise = ⊎_elim (λ h. inl (kept h).kind) (λ h. inr (rebuilt h).kind) (either holding);
        kept_division = λ k. ⊎_elim kept (λ h. absurd (omega (arith, k, (rebuilt h).kind))) (either holding);
        rebuilt_division = λ k. ⊎_elim (λ h. absurd (omega (arith, k, (kept h).kind))) rebuilt (either holding);
      }
    where
      holding : Bool
      holding = holds nodes (at old) (at totals) limit

      rival : SomeDivision nodes limit totals old ↔ (holding ≡ true)
      rival = let r = g.rooted e in division_iff_holds nodes (at old) (at totals) limit r.0 r.1

      kept : holding ≡ true → KeptFine nodes limit totals old d
      kept h = decided-kept nodes p t table totals tree old g needed e h

      rebuilt : holding ≡ false → RebuiltFine nodes p totals d
      rebuilt h = decided-rebuilt nodes p t table totals tree old g needed (rw e h)
