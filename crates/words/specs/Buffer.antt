-- A lent buffer after a record was written into it. Demand 1: "After an accepted call an output buffer begins with one complete
-- record and is otherwise untouched; after a refusal every lent buffer is as before."
use Rattle.std.specs.Prelude.{ℕ, cond, List, ◌++◌, length, drop, eqb, ltb, Err, Ok, Result}
use Rattle.words.specs.declared.TooShort.{TooShort}

-- the buffer begins with the record and is otherwise untouched
abbrev pub placed : List ℕ → List ℕ → List ℕ
placed rec out = rec ++ drop (length rec) out

-- the buffer after a call that was to write this record: the call's refusal is 0 where it was accepted
abbrev pub after_call : ℕ → List ℕ → List ℕ → List ℕ
after_call refusal rec out = cond (eqb refusal 0) (placed rec out) out

-- the buffer after a record was written that may not fit
abbrev pub written : List ℕ → List ℕ → List ℕ
written rec out = cond (ltb (length out) (length rec)) out (placed rec out)

-- the one reason why it was not
abbrev pub too_short : TooShort
too_short = record {}

-- and the answer
abbrev pub writing : List ℕ → List ℕ → Result ℕ TooShort
writing rec out = cond (ltb (length out) (length rec)) (Err too_short) (Ok (length rec))
