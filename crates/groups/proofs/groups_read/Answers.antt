-- `groups::groups_read` meets its contract: past the buffer's test the groups are written. Assumes nothing.
use mathlib.Core.Path.{◌≡◌, sym, ap, ◌∙◌}
use mathlib.Core.List.{List}
use Prim.Native.Nat.{ℕ}
use native.Mathlib.Omega.{arith}
use borrow.Author.Tests.{eqb-true}
use Rattle.arrays.specs.Arrays.{at}
use Rattle.arrays.proofs.Padded.{padded-same}
use Rattle.words.specs.Buffer.{placed}
use Rattle.plan.specs.Plan.{helpands_of}
use Rattle.plan.proofs.Accepted.{reading_accepted}
use Rattle.groups.specs.Groups.{groups_bytes}
use Rattle.groups.proofs.Planned.{array_rooted, reading_none}
use Rattle.groups.proofs.Placing.{none-groups}
use Rattle.groups.proofs.Checks.{ends_grouped}
use Rattle.groups.proofs.groups_read.Goals.{Joined-is_primary, else-is_primary, then-is_primary}
use Rattle.groups.proofs.groups_read.Goals as goal

pub put_none-requires : goal.put_none-requires
put_none-requires c = omega (arith, (reading_accepted _ c.args.p c.requires).n_high)

pub words_64-requires : goal.words_64-requires
words_64-requires c =
    let k = reading_accepted _ c.args.p c.requires in
    omega (arith, k.size, k.n_high)

pub put_groups-requires : goal.put_groups-requires
put_groups-requires c = (rw c.words_64.ensures (array_rooted _ c.requires), omega arith)

abbrev groups_written : (c : Joined-is_primary) → List ℕ
groups_written c = groups_bytes c.args.p.n (at (helpands_of c.args.plan.now c.args.p.n))

written : (c : Joined-is_primary) → c.if-is_primary.groups ≡ placed (groups_written c) c.args.groups.now
written c = elim c.if-is_primary.branch [
  | then-is_primary w ↦ w.groups-is ∙ w.put_none.ensures
      ∙ ap (λ (x : List ℕ). placed x c.args.groups.now) (none-groups _ _ (reading_none _ c.requires (eqb-true _ 0 (sym w.if-is_primary.ensures))))
  | else-is_primary w ↦ w.groups-is ∙ w.put_groups.ensures
      ∙ ap (λ (x : ℕ → ℕ). placed (groups_bytes c.args.p.n x) c.args.groups.now)
      (ap at w.words_64.ensures ∙ padded-same (helpands_of c.args.plan.now c.args.p.n))
]

pub returns-clause-bytes : goal.returns-clause-bytes
returns-clause-bytes c =
    (ends_grouped _ _ c.args.p c.requires (omega arith) (written (goal.at.returns-clause-bytes c).Joined-is_primary)).1

pub overflow_mul-result : goal.overflow_mul-result
overflow_mul-result c = omega (arith, (reading_accepted _ c.args.p c.requires).n_high)

pub overflow_add-result : goal.overflow_add-result
overflow_add-result c = omega (arith, (reading_accepted _ c.args.p c.requires).n_high)

pub overflow_mul-result-2 : goal.overflow_mul-result-2
overflow_mul-result-2 c = omega (arith, (reading_accepted _ c.args.p c.requires).n_high)
