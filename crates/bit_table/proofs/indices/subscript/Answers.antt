-- The same integer.
use Rattle.std.proofs.Common.{◌∙◌}
use Rattle.bit_table.proofs.OfComputing.{index_given}
use Rattle.bit_table.proofs.indices.subscript.Goals as goal

pub returns-in_ok-number-in-Discrete-clause-value : goal.returns-in_ok-number-in-Discrete-clause-value
returns-in_ok-number-in-Discrete-clause-value c = λ v h.
    index_given v c.args.a.now c.integer.result c.in-Discrete.d c.in_ok-number-in-Discrete.number.items c.in-Discrete.is (c.in_ok-number-in-Discrete.ensures.items ∙ c.as_slice.ensures)
    (c.integer.ensures.value v h)
