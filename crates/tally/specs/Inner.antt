-- What the inner functions of this crate ask of each other. No promise to a caller rests on these definitions.
use Rattle.std.specs.Prelude.{ℕ, ◌+◌, ◌≤◌, ◌<◌, Bool, true, false, not, ◌&&◌, List, ◌++◌, eqb, ltb, leb, length, take, drop, Err, Ok, Result, ⊤}
use Rattle.limit.specs.Limit.{max_nodes, max_total}
use Rattle.plan.specs.Tree.{helpands_below}
use Rattle.tree.specs.Links.{Linked}
use Rattle.words.specs.Checks.{refuse_if}
use Rattle.tally.specs.Call.{Call, cell_of}
use Rattle.tally.specs.Layout.{total_at, count_at}
use Rattle.tally.specs.Tally.{number_of}
use Rattle.tally.specs.declared.TallyRefusal.{TallyRefusal}

-- the tests of 58 that come before the counts are looked at
abbrev pub named : ℕ → (ℕ → ℕ) → ℕ → ℕ → ℕ → Bool
named n h holder subdomain count =
    leb n max_nodes && (ltb holder n && (ltb subdomain n && (not (eqb count 0) && helpands_below n h)))

-- the checks of a call that come after them, where the cell has so many particles and its subdomain so many of its own
abbrev pub amount_number : ℕ → ℕ → ℕ → ℕ → Bool → ℕ
amount_number has own total count adds =
    refuse_if (not (leb has own && leb own total)) 58
    (refuse_if (not adds && ltb has count) 59 (refuse_if (adds && ltb max_total (total + count)) 60 0))

abbrev pub checked_number : Result ⊤ TallyRefusal → ℕ
checked_number (Ok tt) = 0
checked_number (Err r) = number_of r

-- adding or removing so many does not wrap
abbrev pub Countable : Bool → ℕ → ℕ → Type 0
Countable true count x = x + count ≤ max_total
Countable false count x = count ≤ x

-- what renewing the leasts goes by
pub record Linking (nodes : ℕ) (h : ℕ → ℕ) (links : List ℕ) : Type 0 where
  pub few : nodes ≤ max_nodes
  pub inside : (k : ℕ) → k < nodes → h k < nodes
  pub linked : Linked nodes h links

-- past all checks: the cells can be changed
pub record CellsChangeable (nodes : ℕ) (h : ℕ → ℕ) (cells : List ℕ) (c : Call) : Type 0 where
  pub few : nodes ≤ max_nodes
  pub holder : c.holder < 64
  pub subdomain : c.subdomain < nodes
  pub inside : (k : ℕ) → k < nodes → h k < nodes
  pub has : Countable c.adds c.count (count_at cells (cell_of c))
  pub own : Countable c.adds c.count (total_at cells c.subdomain)

-- the cells with a row of numbers copied to the place `from`
abbrev pub put_at : ℕ → List ℕ → List ℕ → List ℕ
put_at from row cells = take from cells ++ (row ++ drop (from + length row) cells)
