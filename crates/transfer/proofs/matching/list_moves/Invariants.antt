-- `transfer::matching::list_moves` meets its contract: after n turns the moves of the first n subdomains are written. Assumes nothing.
use mathlib.Core.List.{List}
use Prim.Native.Nat.{ℕ}
use Rattle.arrays.specs.Arrays.{at}
use Rattle.transfer.specs.List.{routes_in, counts_in}
use Rattle.transfer.specs.Due.{due_with}
use Rattle.transfer.proofs.Subdomains.{WrittenBelow}
use Rattle.transfer.proofs.matching.list_moves.Given as goal

-- what node k is due of subdomain n, where own holds what is left for each owner
abbrev pub dues : List ℕ → List ℕ → List ℕ → ℕ → ℕ → ℕ
dues helpands shares own n = due_with (at helpands) (at shares) (at own n) n

abbrev pub invariant-loop-n : goal.invariant-loop-n
invariant-loop-n l =
    WrittenBelow l.nodes l.table (dues l.helpands l.shares l.own) l.n (routes_in l.moves) (counts_in l.moves)
