-- The first node from a node on that has an amount, as two numbers: past the last such node, the number of nodes. Assumes nothing.
use mathlib.Core.Path.{◌≡◌, sym, ◌∙◌, subst}
use mathlib.Core.Logic.{◌≢◌}
use Prim.Native.Nat.{ℕ, ◌+◌, ◌≤◌, ◌<◌}
use native.Mathlib.Decide.{ℕ_discrete}
use native.Mathlib.Nat.{le_refl}
use native.Mathlib.Omega.{arith}
use Rattle.std.specs.Option.{IfSome}
use Rattle.std.specs.Prelude.{None, Option, Some}
use Rattle.transfer.specs.declared.matching.Remaining.{Remaining}
use Rattle.transfer.specs.Inner.{NextAbove}

abbrev pub node_of : ℕ → Option Remaining → ℕ
node_of nodes None = nodes
node_of nodes (Some x) = x.node

abbrev pub left_of : Option Remaining → ℕ
left_of None = 0
left_of (Some x) = x.count

pub record NextFrom (nodes : ℕ) (amount : ℕ → ℕ) (from node count : ℕ) : Type 0 where
  pub from_le : from ≤ node
  pub to_le : node ≤ nodes
  pub none : (k : ℕ) → from ≤ k → k < node → amount k ≡ 0
  pub some : node < nodes → 0 < amount node
  pub is : node < nodes → count ≡ amount node

-- what was found, for amounts that are equal
pub next-from : {nodes from : ℕ} {amount : ℕ → ℕ} (amount' : ℕ → ℕ) → ((k : ℕ) → amount k ≡ amount' k) → (o : Option Remaining)
    → from ≤ nodes → NextAbove nodes amount from o → NextFrom nodes amount' from (node_of nodes o) (left_of o)
next-from amount' same None l x = record {
  from_le = l;
  to_le = le_refl _;
  none = λ k a b. sym (same k) ∙ x k a b;
  some = λ h. absurd (omega arith);
  is = λ h. absurd (omega arith);
}
next-from amount' same (Some y) l x = record {
  from_le = x.0;
  to_le = omega arith;
  none = λ k a b. sym (same k) ∙ x.4 k a b;
  some = λ h. omega (arith, same y.node);
  is = λ h. x.2 ∙ same y.node;
}

-- it is a node
pub next-inside : (nodes from : ℕ) (amount : ℕ → ℕ) (o : Option Remaining) → NextAbove nodes amount from o → IfSome o (λ x. x.node < nodes)
next-inside nodes from amount None x = tt
next-inside nodes from amount (Some y) x = x.1

-- ---- looked for one by one

-- all nodes before k have none
pub record Passing (nodes : ℕ) (amount : ℕ → ℕ) (from k : ℕ) : Type 0 where
  pub from_le : from ≤ k
  pub k_le : k ≤ nodes
  pub passed : (j : ℕ) → from ≤ j → j < k → amount j ≡ 0

module _ (nodes : ℕ) (amount : ℕ → ℕ) (from : ℕ) where
  pub passing_none : from ≤ nodes → Passing nodes amount from from
  passing_none h = record { from_le = omega arith; k_le = h; passed = λ j a b. absurd (omega arith) }

  module _ (k : ℕ) (p : Passing nodes amount from k) where
    pub passing_more : k < nodes → amount k ≡ 0 → Passing nodes amount from (k + 1)
    passing_more h z =
        record {
          from_le = omega (arith, p.from_le);
          k_le = omega arith;
          passed = λ j a b. elim (ℕ_discrete k j) [
            | yes e ↦ subst (λ (i : ℕ). amount i ≡ 0) e z
            | no d ↦ p.passed j a (omega (arith, d))
          ];
        }

    pub found : (count : ℕ) → count ≡ amount k → count ≢ 0 → NextFrom nodes amount from k count
    found count e d =
        record {
          from_le = p.from_le;
          to_le = p.k_le;
          none = p.passed;
          some = λ h. omega (arith, e, d);
          is = λ h. e;
        }

    pub found_none : (count : ℕ) → nodes ≤ k → NextFrom nodes amount from nodes count
    found_none count h =
        record {
          from_le = omega (arith, p.from_le, p.k_le);
          to_le = le_refl _;
          none = λ j a b. p.passed j a (omega arith);
          some = λ l. absurd (omega arith);
          is = λ l. absurd (omega arith);
        }

-- the same for amounts that are equal
pub next-eq : {nodes : ℕ} {amount : ℕ → ℕ} (amount' : ℕ → ℕ) → ((k : ℕ) → amount k ≡ amount' k) → {from node count : ℕ}
    → NextFrom nodes amount from node count → NextFrom nodes amount' from node count
next-eq amount' e {node = node} x =
    record {
      from_le = x.from_le;
      to_le = x.to_le;
      none = λ k a b. sym (e k) ∙ x.none k a b;
      some = λ h. omega (arith, x.some h, e node);
      is = λ h. x.is h ∙ e node;
    }

-- what the next one says of the amounts
module _ {nodes : ℕ} {amount : ℕ → ℕ} {from node count : ℕ} (x : NextFrom nodes amount from node count) where
  pub next-none : (k : ℕ) → from ≤ k → k < node → amount k ≡ 0
  next-none k a b = x.none k a b

  pub next-some : node < nodes → 0 < amount node
  next-some h = x.some h
