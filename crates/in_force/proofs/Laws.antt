-- Laws of *tree in force*: one for each way that the decision can go. Assumes nothing.
use mathlib.Core.Path.{◌≡◌}
use mathlib.Core.Logic.{◌≢◌}
use mathlib.Core.Bool.{true, false, or-true}
use mathlib.Core.List.{List}
use Prim.Native.Nat.{ℕ, ◌*◌}
use native.Mathlib.Omega.{arith}
use borrow.Author.Tests.{eq-eqb, ne_eqb}
use Rattle.plan.specs.declared.PlanRefusal.{PlanRefusal}
use Rattle.arrays.specs.Arrays.{at}
use Rattle.plan.specs.Plan.{accepted, refused, refusal_number, helpands_of, read_plan}
use Rattle.plan.proofs.Answers.{number_more}
use Rattle.in_force.specs.InForce.{of_old, of_new, empty_stretch, same_helpands, in_force}

module _ (old new : List ℕ) where
  -- either is refused
  pub force_old-refused : (r : PlanRefusal) → refused (refusal_number r) ≡ read_plan old → in_force old new ≡ empty_stretch
  unfolding in_force
  force_old-refused r e =
      let d : refusal_number r ≢ 0 = λ z. omega (arith, number_more r) in
      rw (← e, ne_eqb (refusal_number r) 0 d)

  pub force_new-refused : (r : PlanRefusal) → refused (refusal_number r) ≡ read_plan new → in_force old new ≡ empty_stretch
  unfolding in_force
  force_new-refused r e =
      let d : refusal_number r ≢ 0 = λ z. omega (arith, number_more r) in
      rw (← e, ne_eqb (refusal_number r) 0 d, or-true)

  module _ (n kind limit : ℕ) (a : accepted n kind limit ≡ read_plan old) (m kind₂ limit₂ : ℕ)
      (b : accepted m kind₂ limit₂ ≡ read_plan new) where
    -- the N differ
    pub force_nodes : n ≢ m → in_force old new ≡ empty_stretch
    unfolding in_force
    force_nodes d = rw (← a, ← b, ne_eqb n m d)

    module _ (e : n ≡ m) where
      pub force_new : kind₂ ≢ 1 → in_force old new ≡ of_new 12 (4 * m)
      unfolding in_force
      force_new d = rw (← a, ← b, eq-eqb n m e, ne_eqb kind₂ 1 d)

      module _ (k : kind₂ ≡ 1) where
        pub force_primary : kind ≡ 0 → in_force old new ≡ empty_stretch
        unfolding in_force
        force_primary z = rw (← a, ← b, eq-eqb n m e, eq-eqb kind₂ 1 k, eq-eqb kind 0 z)

        module _ (d : kind ≢ 0) where
          pub force_kept : same_helpands m (at (helpands_of old m)) (at (helpands_of new m)) ≡ true → in_force old new ≡ of_old 12 (4 * m)
          unfolding in_force
          force_kept s = rw (← a, ← b, eq-eqb n m e, eq-eqb kind₂ 1 k, ne_eqb kind 0 d, s)

          pub force_other : same_helpands m (at (helpands_of old m)) (at (helpands_of new m)) ≡ false → in_force old new ≡ empty_stretch
          unfolding in_force
          force_other s = rw (← a, ← b, eq-eqb n m e, eq-eqb kind₂ 1 k, ne_eqb kind 0 d, s)
