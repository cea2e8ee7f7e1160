-- The text of arrays that were read from two records is the text of these records: an array of 64 has zeros behind its words. Assumes
-- nothing.
use mathlib.Core.Path.{◌≡◌, ap, ap₂, ◌∙◌}
use mathlib.Core.List.{List, ◌++◌}
use Prim.Native.Nat.{ℕ, ◌+◌, ◌-◌, ◌≤◌}
use native.Mathlib.Nat.{mul-le-mul}
use native.Mathlib.Omega.{arith}
use Rattle.fold.specs.Collect.{collect}
use Rattle.words.specs.Words.{words, part}
use Rattle.arrays.specs.Arrays.{padded, at, tabulate}
use Rattle.plan.specs.Plan.{read_plan, helpands_of, shares_of}
use Rattle.moves.specs.Moves.{read_moves, routes_of, counts_of}
use Rattle.moves.proofs.Accepted.{moves-accepted}
use Rattle.tree.specs.Division.{own_of}
use Rattle.sheet.specs.Totals.{totals_in}
use Rattle.text.specs.Text.{head_line, node_line, moves_text, step_text}
use Rattle.run.specs.Run.{own_in, records_text}
use Rattle.run.specs.Inner.{Printable}
use Rattle.arrays.proofs.Padded.{padded-same}

-- a text with each array read by index
abbrev by_index : ℕ → ℕ → ℕ → (ℕ → ℕ) → (ℕ → ℕ) → List ℕ → List ℕ → List ℕ
by_index kind limit n h share own rest = head_line kind limit ++ collect n (λ k. node_line k (h k) (share k) (at own k)) ++ rest

-- what is left of each subdomain, with the helpands and shares read by index
abbrev own_by : List ℕ → ℕ → (ℕ → ℕ) → (ℕ → ℕ) → List ℕ
own_by s n h share = tabulate n (own_of n h (at (totals_in s)) share)

module _ (s p m : List ℕ) (g : Printable s p m) where
  -- there are at most 4,032 moves
  pub moves-few : (read_moves m).e ≤ 4032
  moves-few =
      let a = moves-accepted m g.moves in
      let l : (read_moves m).n - 1 ≤ 63 = omega (arith, a.n_high) in
      omega (arith, a.e_high, mul-le-mul a.n_high l)

  -- the arrays, as they were read
  module _ (n kind limit e : ℕ) (helpands shares own routes counts : List ℕ)
      (n_is : n ≡ (read_plan p).n)
      (e_is : e ≡ (read_moves m).e)
      (helpands-is : helpands ≡ padded (part 3 n (words p)))
      (shares-is : shares ≡ padded (part (3 + n) n (words p)))
      (own_is : own ≡ own_in s n helpands shares)
      (routes-is : routes ≡ routes_of m e)
      (counts-is : counts ≡ counts_of m e) where
    moves-same : moves_text e routes counts ≡ moves_text e (routes_of m e) (counts_of m e)
    moves-same = ap₂ (moves_text e) routes-is counts-is

    helpands-at : at helpands ≡ at (helpands_of p n)
    helpands-at = ap at helpands-is ∙ padded-same (helpands_of p n)

    shares_at : at shares ≡ at (shares_of p n)
    shares_at = ap at shares-is ∙ padded-same (shares_of p n)

    own_same : own ≡ own_in s n (helpands_of p n) (shares_of p n)
    own_same = own_is ∙ ap (λ (h : ℕ → ℕ). own_by s n h (at shares)) helpands-at ∙ ap (own_by s n (at (helpands_of p n))) shares_at

    -- THEOREM. The text of the arrays is that of the records.
    pub text_same : kind ≡ (read_plan p).kind → limit ≡ (read_plan p).limit
        → step_text kind limit n helpands shares own e routes counts ≡ records_text s p m
    unfolding step_text records_text
    text_same kind_is limit_is =
        ap (λ (h : ℕ → ℕ). by_index kind limit n h (at shares) own (moves_text e routes counts)) helpands-at
        ∙ ap (λ (h : ℕ → ℕ). by_index kind limit n (at (helpands_of p n)) h own (moves_text e routes counts)) shares_at
        ∙ ap (λ (xs : List ℕ). by_index kind limit n (at (helpands_of p n)) (at (shares_of p n)) xs (moves_text e routes counts)) own_same
        ∙ ap (by_index kind limit n (at (helpands_of p n)) (at (shares_of p n)) (own_in s n (helpands_of p n) (shares_of p n))) moves-same
        ∙ rw (n_is, e_is, kind_is, limit_is)
