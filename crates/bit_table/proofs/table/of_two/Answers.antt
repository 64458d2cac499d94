-- One of the operators on two values.
use Rattle.std.proofs.Common.{ap, not}
use Rattle.std.specs.Prelude.{Some}
use Rattle.std.specs.Int.{int_max, int_min}
use Rattle.smv_value.specs.declared.value.Value.TheVariants as value
use Rattle.smv_value.specs.Results.{fault_of, logical, of_integers, of_numbers, ordered, same, sum_of, value_of}
use Rattle.bit_table.proofs.OfComputing.{given_two}
use Rattle.bit_table.proofs.table.of_two.Goals as goal

pub returns-in_ok-made-in-Logic-clause-value : goal.returns-in_ok-made-in-Logic-clause-value
returns-in_ok-made-in-Logic-clause-value c = given_two c.logical.new.graph c.args.operator (logical c.in-Logic.o) c.args.a.now c.args.b.now c.in_ok-made-in-Logic.made (ap value_of c.in-Logic.is) (ap fault_of c.in-Logic.is) c.in_ok-made-in-Logic.ensures.value

pub returns-in_ok-made-in-Equal-clause-value : goal.returns-in_ok-made-in-Equal-clause-value
returns-in_ok-made-in-Equal-clause-value c = given_two c.equality.new.graph c.args.operator (λ x y. Some (value.Bool (same x y))) c.args.a.now c.args.b.now c.in_ok-made-in-Equal.made (ap value_of c.in-Equal.is) (ap fault_of c.in-Equal.is) c.in_ok-made-in-Equal.ensures.value

pub returns-in_ok-made-in-NotEqual-clause-value : goal.returns-in_ok-made-in-NotEqual-clause-value
returns-in_ok-made-in-NotEqual-clause-value c = given_two c.difference.new.graph c.args.operator (λ x y. Some (value.Bool (not (same x y)))) c.args.a.now c.args.b.now c.in_ok-made-in-NotEqual.made (ap value_of c.in-NotEqual.is) (ap fault_of c.in-NotEqual.is) c.in_ok-made-in-NotEqual.ensures.value

pub returns-in_ok-made-in-Order-clause-value : goal.returns-in_ok-made-in-Order-clause-value
returns-in_ok-made-in-Order-clause-value c = given_two c.order.new.graph c.args.operator (ordered c.in-Order.o) c.args.a.now c.args.b.now c.in_ok-made-in-Order.made (ap value_of c.in-Order.is) (ap fault_of c.in-Order.is) c.in_ok-made-in-Order.ensures.value

pub returns-in_ok-made-in-Arithmetic-clause-value : goal.returns-in_ok-made-in-Arithmetic-clause-value
returns-in_ok-made-in-Arithmetic-clause-value c = given_two c.summed.new.graph c.args.operator (of_numbers (sum_of c.in-Arithmetic.o)) c.args.a.now c.args.b.now c.in_ok-made-in-Arithmetic.made (ap value_of c.in-Arithmetic.is) (ap fault_of c.in-Arithmetic.is) c.in_ok-made-in-Arithmetic.ensures.value

pub returns-in_ok-made-in-Maximum-clause-value : goal.returns-in_ok-made-in-Maximum-clause-value
returns-in_ok-made-in-Maximum-clause-value c = given_two c.extreme.new.graph c.args.operator (of_integers int_max) c.args.a.now c.args.b.now c.in_ok-made-in-Maximum.made (ap value_of c.in-Maximum.is) (ap fault_of c.in-Maximum.is) c.in_ok-made-in-Maximum.ensures.value

pub returns-in_ok-made-in-Minimum-clause-value : goal.returns-in_ok-made-in-Minimum-clause-value
returns-in_ok-made-in-Minimum-clause-value c = given_two c.extreme-in-Minimum.new.graph c.args.operator (of_integers int_min) c.args.a.now c.args.b.now c.in_ok-made-in-Minimum.made (ap value_of c.in-Minimum.is) (ap fault_of c.in-Minimum.is) c.in_ok-made-in-Minimum.ensures.value
