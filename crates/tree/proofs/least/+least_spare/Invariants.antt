-- The cycle {least, spare}. Each call goes one step down: the measure is twice the depth for `least`, and one more for `spare`. At the
-- loop's head the helpers passed are weighed. Assumes nothing.
use Rattle.std.proofs.Common.{◌-◌, ◌≡◌, ℕ, ◌+◌, List, length}
use Rattle.arrays.specs.Arrays.{at}
use Rattle.tree.specs.Least.{least}
use Rattle.tree.proofs.Linking.{Left}
use Rattle.tree.proofs.Passing.{HelpersPassed}
use Rattle.tree.proofs.least.+least_spare.Given as goal

abbrev pub decreases-least : goal.decreases-least
decreases-least l = l.depth + l.depth

abbrev pub decreases-spare : goal.decreases-spare
decreases-spare l = l.depth + l.depth + 1

-- the helpers of n below k are weighed
pub record WeighedSoFar (nodes : ℕ) (h total : ℕ → ℕ) (limit n : ℕ) (before out : List ℕ) (left k : ℕ) : Type 0 where
  pub long : length out ≡ 64
  pub spared : Left nodes h n (λ i. limit - least nodes h total limit i) (total n) left k
  pub passed : HelpersPassed nodes h (least nodes h total limit) n before k out

abbrev pub invariant-least-loop-k : goal.invariant-least-loop-k
invariant-least-loop-k l =
    WeighedSoFar l.helpers.nodes (at l.helpers.helpands.now) (at l.totals) l.limit l.n l.initial.leasts l.leasts l.left l.k

abbrev pub decreases-least-loop-k : goal.decreases-least-loop-k
decreases-least-loop-k l = l.helpers.nodes - l.k
