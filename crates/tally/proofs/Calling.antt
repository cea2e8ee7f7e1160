-- A call on whatever the tally holds: its checks as the program makes them, and one law for each way out. Assumes nothing.
use mathlib.Core.Path.{◌≡◌, refl, sym, ◌∙◌}
use mathlib.Core.Logic.{◌≢◌}
use mathlib.Core.Bool.{Bool, true, false, not, cond}
use mathlib.Core.List.{List}
use Prim.Native.Nat.{ℕ, suc, ◌≤◌, ◌<◌}
use native.Mathlib.Omega.{arith}
use Rattle.std.proofs.lemmas.Bool.Decides.{nat_tests}
use borrow.Author.Tests.{ltb-true, ne_eqb, not-false}
use lib.Dec.{eqb, ltb}
use Rattle.fold.proofs.Tests.{all-at, passed}
use Rattle.arrays.specs.Arrays.{at}
use Rattle.limit.specs.Limit.{max_nodes}
use Rattle.plan.specs.Tree.{helpands_below}
use Rattle.weigh.specs.Weigh.{refused, weighed}
use Rattle.tally.specs.declared.Head.{Head}
use Rattle.tally.specs.declared.Tally.{Tally}
use Rattle.tally.specs.declared.Called.{Called}
use Rattle.tally.specs.declared.TallyRefusal.{TallyRefusal}
use Rattle.tally.specs.declared.TallyRefusal.TheVariants.{NoCell}
use Rattle.tally.specs.Call.{Call, call_of, cell_of, counted, call_number}
use Rattle.tally.specs.Layout.{total_at, count_at}
use Rattle.tally.specs.Renew.{renewed}
use Rattle.tally.specs.Tally.{number_of, tally_with, with_total, number_in, counted_cells, cells_after, changed, tally_after, call_answer, holding, call_result}
use Rattle.tally.specs.Inner.{named, amount_number, Countable, CellsChangeable}
use Rattle.tally.proofs.Answers.{numbered}

-- a test that makes no difference
pub cond_same : {A : Type 0} (b : Bool) (x : A) → cond b x x ≡ x
cond_same true x = refl
cond_same false x = refl

-- ---- the checks, in the order in which the program makes them

-- where no amount refuses, nothing wraps
amounts_fit : (adds : Bool) (has own total count : ℕ) → 0 ≡ amount_number has own total count adds
    → (Countable adds count has) × (Countable adds count own) × (Countable adds count total)
amounts_fit true has own total count e = (grind (arith, nat_tests), grind (arith, nat_tests), grind (arith, nat_tests))
amounts_fit false has own total count e = (grind (arith, nat_tests), grind (arith, nat_tests), grind (arith, nat_tests))

module _ (h : Head) (cells : List ℕ) (adds : Bool) (k d count : ℕ) where
  abbrev t : Tally
  t = tally_with h cells

  abbrev c : Call
  c = call_of adds k d count

  abbrev is-named : Bool
  is-named = named h.n (at h.helpands) k d count

  abbrev amounts : ℕ
  amounts = amount_number (count_at cells (cell_of c)) (total_at cells d) h.total count adds

  number-parts : number_in t c ≡ cond (not is-named) 58 amounts
  unfolding number_in call_number
  number-parts = grind (arith, nat_tests)

  pub number-unnamed : is-named ≡ false → 58 ≡ number_in t c
  number-unnamed e = sym (number-parts ∙ rw e)

  pub number-amounts : is-named ≡ true → amounts ≡ number_in t c
  number-amounts e = sym (number-parts ∙ rw e)

  -- ---- what is known once the cell is named

  module _ (yes-named : is-named ≡ true) where
    pub few : h.n ≤ max_nodes
    few = grind (arith, nat_tests)

    pub named-holder : k < 64
    named-holder = grind (arith, nat_tests)

    pub named-subdomain : d < 64
    named-subdomain = grind (arith, nat_tests)

  -- ---- what is known past the checks

  module _ (z : 0 ≡ number_in t c) where
    past : (not is-named ≡ false) × (amounts ≡ 0)
    past = passed (λ x. x) (not is-named) 58 amounts (λ e. omega arith) (sym number-parts ∙ sym z)

    fit : (Countable adds count (count_at cells (cell_of c))) × (Countable adds count (total_at cells d)) × (Countable adds count h.total)
    fit = amounts_fit adds (count_at cells (cell_of c)) (total_at cells d) h.total count (sym past.1)

    pub changeable : CellsChangeable h.n (at h.helpands) cells c
    changeable =
        let yes-named : is-named ≡ true = not-false _ past.0 in
        let below : helpands_below h.n (at h.helpands) ≡ true = grind (arith, nat_tests) in
        record {
          few = grind (arith, nat_tests);
          holder = grind (arith, nat_tests);
          subdomain = grind (arith, nat_tests);
          inside = λ j l. ltb-true (at h.helpands j) h.n (all-at h.n (λ i. ltb (at h.helpands i) h.n) below j l);
          has = fit.0;
          own = fit.1;
        }

    pub total_countable : Countable adds count h.total
    total_countable = fit.2

  -- ---- the ways out

  -- what is given, and the cells as they are then
  abbrev pub Ends : Called → List ℕ → Type 0
  Ends r cells₁ = (r ≡ call_result t c) × (cells₁ ≡ (tally_after t c).cells)

  pub ends_refused : (r : TallyRefusal) → number_of r ≡ number_in t c
      → Ends (record { answer = refused (number_of r); total = h.total }) cells
  unfolding call_answer tally_after
  ends_refused r e =
      let d : number_of r ≢ 0 = λ z. omega (arith, (numbered r).0) in
      (rw (← e, ne_eqb (number_of r) 0 d), rw (← e, ne_eqb (number_of r) 0 d))

  pub ends_unnamed : is-named ≡ false → Ends (record { answer = refused 58; total = h.total }) cells
  ends_unnamed e = ends_refused NoCell (number-unnamed e)

  pub ends_amounts : is-named ≡ true → (r : TallyRefusal) → number_of r ≡ amounts
      → Ends (record { answer = refused (number_of r); total = h.total }) cells
  ends_amounts y r e = ends_refused r (e ∙ number-amounts y)

  pub ends_changed : 0 ≡ number_in t c → {after : List ℕ}
      → after ≡ renewed h.n (at h.helpands) h.limit (suc h.n) d (counted_cells cells c)
      → Ends (record { answer = weighed (holding h.n h.limit after); total = counted adds count h.total }) after
  unfolding call_answer tally_after changed cells_after
  ends_changed e is = (rw (is, ← e), rw (← e) is)

-- of the head a call changes the total alone
pub head-stays : (t : Tally) (c : Call)
    → tally_with (with_total t.head (tally_after t c).head.total) (tally_after t c).cells ≡ tally_after t c
unfolding tally_after changed
head-stays t c = stays (not (eqb (number_in t c) 0))
  where
    stays : (b : Bool) → let u = cond b t (changed t c) in tally_with (with_total t.head u.head.total) u.cells ≡ u
    stays true = refl
    stays false = refl
