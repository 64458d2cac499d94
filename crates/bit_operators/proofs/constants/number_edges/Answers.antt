-- The bits of the number.
use Rattle.std.proofs.Common.{◌∙◌, ap, length}
use Rattle.bit_values.specs.Bits.{bits_of}
use Rattle.bit_values.proofs.Numbers.{length-bits_of, number-constant}
use Rattle.bit_operators.proofs.constants.number_edges.Goals as goal

pub returns-clause-length : goal.returns-clause-length
returns-clause-length c = c.in_ok-edges.ensures.length ∙ ap length (c.deref.ensures.value ∙ c.in_ok-bits.ensures) ∙ length-bits_of c.args.width c.args.number

pub returns-clause-value : goal.returns-clause-value
returns-clause-value c = λ v h.
    number-constant v c.in_ok-edges.edges.items c.args.width c.args.number c.requires (c.in_ok-edges.ensures.value v h ∙ c.deref.ensures.value ∙ c.in_ok-bits.ensures)
