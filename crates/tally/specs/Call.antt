-- Request 2026-08: a call "adds or removes a count in a cell, named by holder and subdomain".
use Rattle.std.specs.Prelude.{ℕ, ◌+◌, ◌-◌, Bool, true, false, cond, not, ◌&&◌, ◌||◌, eqb, ltb}
use Rattle.limit.specs.Limit.{max_total}
use Rattle.words.specs.Checks.{refuse_if}
use Rattle.sheet.specs.Sheet.{cell}
use Rattle.tally.specs.declared.Operation.{Operation}
use Rattle.tally.specs.declared.Operation.TheVariants.{Add, Remove}

-- a call: whether it adds, and otherwise it removes
pub record Call : Type 0 where
  pub adds : Bool
  pub holder : ℕ
  pub subdomain : ℕ
  pub count : ℕ

-- whether an operation adds
abbrev pub adding : Operation → Bool
adding Add = true
adding Remove = false

abbrev pub call_of : Bool → ℕ → ℕ → ℕ → Call
call_of adds holder subdomain count = record { adds = adds; holder = holder; subdomain = subdomain; count = count }

-- the cell that it names
abbrev pub cell_of : Call → ℕ
cell_of c = cell c.holder c.subdomain

-- what it makes of a number of particles
abbrev pub counted : Bool → ℕ → ℕ → ℕ
counted adds count x = cond adds (x + count) (x - count)

-- "a call has 58 for a node not below N or a count of 0, 59 for removing more than the cell has, 60 for a total above the maximum":
-- the number of the first check that refuses, or 0, where the cell has so many particles and all cells have this total
unfoldable pub call_number : ℕ → ℕ → ℕ → Call → ℕ
call_number n has total c =
    refuse_if (not (ltb c.holder n) || (not (ltb c.subdomain n) || eqb c.count 0)) 58
    (refuse_if (not c.adds && ltb has c.count) 59
    (refuse_if (c.adds && ltb max_total (total + c.count)) 60 0))
