-- Three sheets, such as those of two inlets and the resident one: which two are joined first does not matter. With `join_order`, several
-- can be joined one after the other in any order. Assumes nothing.
use mathlib.Core.Path.{◌≡◌, refl, sym, ap, ◌∙◌}
use mathlib.Core.List.{List}
use Prim.Native.Nat.{ℕ, ◌+◌, ◌≤◌}
use native.Mathlib.Omega.{arith}
use Rattle.limit.specs.Limit.{max_total}
use Rattle.sheet.specs.declared.SheetAnswer.{SheetAnswer}
use Rattle.sheet.specs.Sheet.{read_sheet}
use Rattle.sheet.specs.Table.{table_in}
use Rattle.sheet.specs.Write.{sheet_bytes}
use Rattle.inlet.specs.Join.{sum_of, joint_total, joined_sheet}
use Rattle.inlet.proofs.Tables.{added_three}
use Rattle.inlet.proofs.ReadBack.{Joinable, joined_back, table_joined}

-- a joined sheet by what is read of the two
joined_of : (f s f₁ s₁ : List ℕ) (n t : ℕ) → (read_sheet f).n ≡ n → (read_sheet f).t ≡ t → table_in f ≡ f₁ → table_in s ≡ s₁
    → joined_sheet f s ≡ sheet_bytes n t (sum_of f₁ s₁)
unfolding joined_sheet
joined_of f s f₁ s₁ n t en et ef es = rw (en, et, ef, es)

-- what reading a joined sheet gives
module _ {f s : List ℕ} (d : Joinable f s) where
  accepted : (read_sheet (joined_sheet f s)).refusal ≡ 0
  accepted = ap (λ (a : SheetAnswer). a.refusal) (joined_back d).read

  nodes : (read_sheet (joined_sheet f s)).n ≡ (read_sheet f).n
  nodes = ap (λ (a : SheetAnswer). a.n) (joined_back d).read

  tolerance : (read_sheet (joined_sheet f s)).t ≡ (read_sheet f).t
  tolerance = ap (λ (a : SheetAnswer). a.t) (joined_back d).read

  total : (read_sheet (joined_sheet f s)).p ≡ joint_total f s
  total = ap (λ (a : SheetAnswer). a.p) (joined_back d).read

module _ {a b c : List ℕ} (ab : Joinable a b) (bc : Joinable b c) (within : joint_total a b + (read_sheet c).p ≤ max_total) where
  -- the first two, and then the third
  pub joinable_left : Joinable (joined_sheet a b) c
  joinable_left =
      record {
        first = accepted ab;
        second = bc.second;
        nodes = nodes ab ∙ ab.nodes ∙ bc.nodes;
        tolerance = tolerance ab ∙ ab.tolerance ∙ bc.tolerance;
        within = omega (arith, total ab);
      }

  -- the last two, and then the first
  pub joinable_right : Joinable a (joined_sheet b c)
  joinable_right =
      record {
        first = ab.first;
        second = accepted bc;
        nodes = ab.nodes ∙ sym (nodes bc);
        tolerance = ab.tolerance ∙ sym (tolerance bc);
        within = omega (arith, total bc);
      }

  -- THEOREM. Both ways are accepted, above, and give the same bytes.
  pub joined_three : joined_sheet (joined_sheet a b) c ≡ joined_sheet a (joined_sheet b c)
  joined_three =
      joined_of (joined_sheet a b) c (sum_of (table_in a) (table_in b)) (table_in c) (read_sheet a).n (read_sheet a).t (nodes ab) (tolerance ab)
      (table_joined ab) refl
      ∙ ap (sheet_bytes (read_sheet a).n (read_sheet a).t) (added_three (table_in a) (table_in b) (table_in c))
      ∙ sym (joined_of a (joined_sheet b c) (table_in a) (sum_of (table_in b) (table_in c)) (read_sheet a).n (read_sheet a).t refl refl refl
      (table_joined bc))
