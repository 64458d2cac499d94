-- One of two values is also one where there is no fault.
use Rattle.bit_outcomes.proofs.OfChoices.{without_fault}
use Rattle.bit_outcomes.proofs.choosing.chosen.Goals as goal

pub returns-in_ok-value-clause-value : goal.returns-in_ok-value-clause-value
returns-in_ok-value-clause-value c = without_fault c.in_ok-value.value c.choose.new.graph c.args.b c.args.f c.args.g c.args.x.now c.args.y.now c.in_ok-value.ensures.value
