-- What a list of moves holds.
use Rattle.std.specs.Prelude.{ℕ, List, take}
use Rattle.transfer.specs.declared.list.MoveList.{MoveList}

-- its routes and its counts, in front of its two arrays
abbrev pub routes_in : MoveList → List ℕ
routes_in m = take m.entries m.routes

abbrev pub counts_in : MoveList → List ℕ
counts_in m = take m.entries m.counts
