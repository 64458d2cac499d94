-- The edge's negation as a value.
use Rattle.bit_choices.proofs.OfValues.{negation_is}
use Rattle.bit_table.proofs.OfComputing.{differ_is}
use Rattle.bit_table.proofs.compared.difference.Goals as goal

pub returns-in-Some-clause-value : goal.returns-in-Some-clause-value
returns-in-Some-clause-value c = λ v h.
    differ_is c.equal.new.graph v c.args.a.now c.args.b.now c.in-Some.e c.negation.result (negation_is v c.in-Some.e c.negation.result c.negation.ensures)
    (λ x y ea eb. (rw c.in-Some.is at c.in_ok-e.ensures.value) v x y h ea eb)
