-- One of the operators on one value.
use Rattle.std.proofs.Common.{ap, false, neg_ℤ, pos, true, unsigned_abs}
use Rattle.smv_value.specs.Results.{fault_of, inverted, of_integer, of_number, size, to_boolean, to_word, value_of, with_sign}
use Rattle.bit_table.proofs.OfComputing.{given_one, plain_one}
use Rattle.bit_table.proofs.table.of_one.Goals as goal

pub returns-in_ok-made-in-Not-clause-value : goal.returns-in_ok-made-in-Not-clause-value
returns-in_ok-made-in-Not-clause-value c = plain_one c.args.graph.now c.args.operator inverted c.args.a.now c.in_ok-made-in-Not.made (ap value_of c.in-Not.is) (ap fault_of c.in-Not.is) c.in_ok-made-in-Not.ensures.value

pub returns-in_ok-made-in-Negate-clause-value : goal.returns-in_ok-made-in-Negate-clause-value
returns-in_ok-made-in-Negate-clause-value c = given_one c.negated.new.graph c.args.operator (of_number neg_ℤ) c.args.a.now c.in_ok-made-in-Negate.made (ap value_of c.in-Negate.is) (ap fault_of c.in-Negate.is) c.in_ok-made-in-Negate.ensures.value

pub returns-in_ok-made-in-Absolute-clause-value : goal.returns-in_ok-made-in-Absolute-clause-value
returns-in_ok-made-in-Absolute-clause-value c = given_one c.absolute.new.graph c.args.operator (of_integer (λ x. pos (unsigned_abs x))) c.args.a.now c.in_ok-made-in-Absolute.made (ap value_of c.in-Absolute.is) (ap fault_of c.in-Absolute.is) c.in_ok-made-in-Absolute.ensures.value

pub returns-in_ok-made-in-ToWord-clause-value : goal.returns-in_ok-made-in-ToWord-clause-value
returns-in_ok-made-in-ToWord-clause-value c = plain_one c.args.graph.now c.args.operator to_word c.args.a.now c.in_ok-made-in-ToWord.made (ap value_of c.in-ToWord.is) (ap fault_of c.in-ToWord.is) c.in_ok-made-in-ToWord.ensures.value

pub returns-in_ok-made-in-ToBoolean-clause-value : goal.returns-in_ok-made-in-ToBoolean-clause-value
returns-in_ok-made-in-ToBoolean-clause-value c = given_one c.to_boolean.new.graph c.args.operator to_boolean c.args.a.now c.in_ok-made-in-ToBoolean.made (ap value_of c.in-ToBoolean.is) (ap fault_of c.in-ToBoolean.is) c.in_ok-made-in-ToBoolean.ensures.value

pub returns-in_ok-made-in-Signed-clause-value : goal.returns-in_ok-made-in-Signed-clause-value
returns-in_ok-made-in-Signed-clause-value c = plain_one c.args.graph.now c.args.operator (with_sign true) c.args.a.now c.in_ok-made-in-Signed.made (ap value_of c.in-Signed.is) (ap fault_of c.in-Signed.is) c.in_ok-made-in-Signed.ensures.value

pub returns-in_ok-made-in-Unsigned-clause-value : goal.returns-in_ok-made-in-Unsigned-clause-value
returns-in_ok-made-in-Unsigned-clause-value c = plain_one c.args.graph.now c.args.operator (with_sign false) c.args.a.now c.in_ok-made-in-Unsigned.made (ap value_of c.in-Unsigned.is) (ap fault_of c.in-Unsigned.is) c.in_ok-made-in-Unsigned.ensures.value

pub returns-in_ok-made-in-Size-clause-value : goal.returns-in_ok-made-in-Size-clause-value
returns-in_ok-made-in-Size-clause-value c = given_one c.args.graph.now c.args.operator size c.args.a.now c.in_ok-made-in-Size.made (ap value_of c.in-Size.is) (ap fault_of c.in-Size.is) c.in_ok-made-in-Size.ensures.value

pub returns-in_ok-made-in-Subscript-clause-value : goal.returns-in_ok-made-in-Subscript-clause-value
returns-in_ok-made-in-Subscript-clause-value c = given_one c.args.graph.now c.args.operator (of_integer (λ x. x)) c.args.a.now c.in_ok-made-in-Subscript.made (ap value_of c.in-Subscript.is) (ap fault_of c.in-Subscript.is) c.in_ok-made-in-Subscript.ensures.value
