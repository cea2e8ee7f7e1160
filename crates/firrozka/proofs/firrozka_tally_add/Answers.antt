-- `firrozka::firrozka_tally_add` meets its contract: answer and cells are those of the call, and of the head a call changes the total alone,
-- which is stored. Assumes nothing.
use mathlib.Core.Path.{ap, ap₂, ◌∙◌}
use Rattle.std.proofs.Common.{true, ℕ, List}
use Rattle.tally.specs.Call.{call_of}
use Rattle.tally.specs.Tally.{tally_with, with_total}
use Rattle.tally.specs.declared.Called.{Called}
use Rattle.tally.proofs.Calling.{head-stays}
use Rattle.firrozka.proofs.firrozka_tally_add.Goals as goal

pub returns : goal.returns
returns c =
    let t = c.args.t.now in
    let call = call_of true c.args.holder c.args.subdomain c.args.count in
    let found = c.change-done.ensures in (
      ap (λ (r : Called). r.answer) found.0,
      ap₂ (λ (total : ℕ) (cells : List ℕ). tally_with (with_total t.head total) cells) (ap (λ (r : Called). r.total) found.0) found.1
          ∙ head-stays t call,
    )
