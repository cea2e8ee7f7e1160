-- What the inner functions of this crate ask of each other. No promise to a caller rests on these definitions.
use Rattle.std.specs.Prelude.{◌≡◌, List, ℕ, ◌≤◌, Err, Ok, Result}
use Rattle.sheet.specs.declared.Sheet.{Sheet}
use Rattle.sheet.specs.Sheet.{read_sheet, accepted as sheet_accepted}
use Rattle.moves.specs.declared.Moves.{Moves}
use Rattle.moves.specs.Moves.{read_moves, accepted as moves_accepted}
use Rattle.carry.specs.Checks.{check_number, checked}
use Rattle.carry.specs.declared.check.CheckRefusal.{CheckRefusal}

-- the sheet and the moves were read as these, and have as many nodes
pub record PairAccepted (s m : List ℕ) (h : Sheet) (q : Moves) : Type 0 where
  pub sheet : sheet_accepted h.n h.t h.e h.p h.limit ≡ read_sheet s
  pub moves : moves_accepted q.n q.e ≡ read_moves m
  pub nodes : h.n ≡ q.n

-- what reading both gives: they were read, or the number of the first check up to 41 that refuses
abbrev pub PairRead : List ℕ → List ℕ → Result (Sheet × Moves) CheckRefusal → Type 0
PairRead s m (Ok (h, q)) = PairAccepted s m h q
PairRead s m (Err r) = (check_number r ≡ checked s m) × (check_number r ≤ 41)
