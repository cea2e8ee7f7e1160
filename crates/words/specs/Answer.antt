-- The answer of an operation that writes one record. Document 01, 'Operations': "An answer carries 0 or a refusal number, and the values
-- named. A refusal's other values are all 0".
use Rattle.std.specs.Prelude.{ℕ, Result, Ok, Err}
use Rattle.words.specs.declared.WrittenAnswer.{WrittenAnswer}

-- refused with number k
abbrev pub refused : ℕ → WrittenAnswer
refused k = record { refusal = k; bytes = 0 }

-- accepted, with a record of so many bytes
abbrev pub accepted : ℕ → WrittenAnswer
accepted bytes = record { refusal = 0; bytes = bytes }

-- the paper's number and values for each case, where the refusals have these numbers
abbrev pub answer_of : {R : Type 0} → (R → ℕ) → Result ℕ R → WrittenAnswer
answer_of number_of (Ok bytes) = accepted bytes
answer_of number_of (Err r) = refused (number_of r)
