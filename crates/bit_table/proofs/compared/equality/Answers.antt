-- The edge as a value.
use Rattle.bit_table.proofs.OfComputing.{compared_is}
use Rattle.bit_table.proofs.compared.equality.Goals as goal

pub returns-in-Some-clause-value : goal.returns-in-Some-clause-value
returns-in-Some-clause-value c = λ v h.
    compared_is c.equal.new.graph v c.args.a.now c.args.b.now c.in-Some.e (λ x y ea eb. (rw c.in-Some.is at c.in_ok-e.ensures.value) v x y h ea eb)
