-- `tally::open_refused` meets its contract. Assumes nothing.
use mathlib.Core.Path.{refl, ap}
use Rattle.weigh.specs.declared.WeighAnswer.{WeighAnswer}
use Rattle.tally.specs.Tally.{no_tally}
use Rattle.tally.proofs.open_refused.Goals as goal

pub returns : goal.returns
unfolding no_tally
returns c = (ap (λ (a : WeighAnswer). record { answer = a; head = no_tally.head }) c.answer.ensures, refl)
