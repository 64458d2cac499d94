-- The low bits of a quotient, or of a remainder.
use Rattle.smv_value.specs.declared.operator.Division.TheVariants as division
use Rattle.bit_numbers.proofs.OfQuotients.{divided_bits_are}
use Rattle.bit_numbers.proofs.division.divided_bits.Goals as goal

pub returns-in_ok-quotient-in-Quotient-clause-value : goal.returns-in_ok-quotient-in-Quotient-clause-value
returns-in_ok-quotient-in-Quotient-clause-value c = λ v h z.
    divided_bits_are v division.Quotient c.args.o c.args.signed c.args.a.now c.args.b.now c.in_ok-quotient-in-Quotient.quotient.items c.in-Quotient.is
    (c.in_ok-quotient-in-Quotient.ensures.value v h) z

pub returns-in_ok-rest-in-Remainder-clause-value : goal.returns-in_ok-rest-in-Remainder-clause-value
returns-in_ok-rest-in-Remainder-clause-value c = λ v h z.
    divided_bits_are v division.Remainder c.args.o c.args.signed c.args.a.now c.args.b.now c.in_ok-rest-in-Remainder.rest.items c.in-Remainder.is
    (c.in_ok-rest-in-Remainder.ensures.value v h) z
