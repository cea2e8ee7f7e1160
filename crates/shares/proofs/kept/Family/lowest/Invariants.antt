-- `Family::lowest` meets its contract: the rest reaches no level below this one, and each turn leaves fewer members above it. Assumes
-- nothing.
use mathlib.Core.Path.{◌≡◌}
use mathlib.Core.Logic.{◌⊎◌}
use Prim.Native.Nat.{◌-◌, ◌<◌}
use Rattle.shares.specs.Inner.{nodes_in, rooms_now, over}
use Rattle.shares.proofs.Raising.{turns_left}
use Rattle.shares.proofs.kept.Family.lowest.Given as goal

abbrev pub invariant-loop-high : goal.invariant-loop-high
invariant-loop-high l = (l.level ≡ 0) ⊎ (l.rest < over (nodes_in l.self) (rooms_now l.self l.own l.noted) (l.level - 1))

-- there are no more turns than members
abbrev pub decreases-loop-high : goal.decreases-loop-high
decreases-loop-high l = turns_left (nodes_in l.self) (rooms_now l.self l.own l.noted) l.rest l.level
