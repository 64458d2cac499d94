-- The value that is taken, and its fault.
use Rattle.bit_outcomes.proofs.Kept.{symbolic_kept}
use Rattle.bit_outcomes.proofs.OfChoices.{one_taken}
use Rattle.bit_outcomes.proofs.choosing.one_of_values.Goals as goal

pub returns-in_ok-fault-in-Some-clause-stands : goal.returns-in_ok-fault-in-Some-clause-stands
returns-in_ok-fault-in-Some-clause-stands c = (
  c.in_ok-fault-in-Some.ensures.stands,
  symbolic_kept c.chosen.new.graph c.fault_of.new.graph c.in_ok-fault-in-Some.ensures.extends c.in-Some.value (rw c.in-Some.is at c.in_ok-value.ensures.stands),
)

pub returns-in_ok-fault-in-Some-clause-told : goal.returns-in_ok-fault-in-Some-clause-told
returns-in_ok-fault-in-Some-clause-told c = λ v o a r h s p q.
    let before = c.in_ok-fault-in-Some.ensures.extends.kept v h in
    let value = rw c.in-Some.is at c.in_ok-value.ensures.value in
    one_taken v c.args.failed c.args.b c.args.f c.args.g c.in_ok-fault-in-Some.fault (c.in_ok-fault-in-Some.ensures.value v h) c.args.x.now c.args.y.now c.in-Some.value
    (λ w n d. value v w before n d) o a r s p q
