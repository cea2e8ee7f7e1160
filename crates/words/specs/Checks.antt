-- A list of checks. Document 01, 'Operations': "Checks run in the order written." An answer that refuses with number k is `refused k`.
use Rattle.std.specs.Prelude.{Bool, cond, not, ℕ, eqb}

-- one check: where its test passes the answer is this refusal, otherwise the checks go on
abbrev pub refuse_if : {A : Type 0} → Bool → A → A → A
refuse_if test refusal rest = cond test refusal rest

-- "Refused: the sheet's; the plan's; ..": where another record is refused with k the answer refuses with k, otherwise the checks go on
abbrev pub refuse_as : {A : Type 0} → (ℕ → A) → ℕ → A → A
refuse_as refused k rest = cond (not (eqb k 0)) (refused k) rest
