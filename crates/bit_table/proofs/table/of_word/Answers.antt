-- One of the operators that make words of two values.
use Rattle.std.proofs.Common.{ap, false, true}
use Rattle.smv_value.specs.Results.{constant_word, extended, fault_of, joined, resized, value_of}
use Rattle.bit_table.proofs.OfComputing.{given_two, plain_two}
use Rattle.bit_table.proofs.table.of_word.Goals as goal

pub returns-in_ok-made-in-Join-clause-value : goal.returns-in_ok-made-in-Join-clause-value
returns-in_ok-made-in-Join-clause-value c = plain_two c.args.graph.now c.args.operator joined c.args.a.now c.args.b.now c.in_ok-made-in-Join.made (ap value_of c.in-Join.is) (ap fault_of c.in-Join.is) c.in_ok-made-in-Join.ensures.value

pub returns-in_ok-made-in-Extend-clause-value : goal.returns-in_ok-made-in-Extend-clause-value
returns-in_ok-made-in-Extend-clause-value c = given_two c.args.graph.now c.args.operator extended c.args.a.now c.args.b.now c.in_ok-made-in-Extend.made (ap value_of c.in-Extend.is) (ap fault_of c.in-Extend.is) c.in_ok-made-in-Extend.ensures.value

pub returns-in_ok-made-in-Resize-clause-value : goal.returns-in_ok-made-in-Resize-clause-value
returns-in_ok-made-in-Resize-clause-value c = given_two c.args.graph.now c.args.operator resized c.args.a.now c.args.b.now c.in_ok-made-in-Resize.made (ap value_of c.in-Resize.is) (ap fault_of c.in-Resize.is) c.in_ok-made-in-Resize.ensures.value

pub returns-in_ok-made-in-UnsignedConstant-clause-value : goal.returns-in_ok-made-in-UnsignedConstant-clause-value
returns-in_ok-made-in-UnsignedConstant-clause-value c = given_two c.args.graph.now c.args.operator (constant_word false) c.args.a.now c.args.b.now c.in_ok-made-in-UnsignedConstant.made (ap value_of c.in-UnsignedConstant.is) (ap fault_of c.in-UnsignedConstant.is) c.in_ok-made-in-UnsignedConstant.ensures.value

pub returns-in_ok-made-in-SignedConstant-clause-value : goal.returns-in_ok-made-in-SignedConstant-clause-value
returns-in_ok-made-in-SignedConstant-clause-value c = given_two c.args.graph.now c.args.operator (constant_word true) c.args.a.now c.args.b.now c.in_ok-made-in-SignedConstant.made (ap value_of c.in-SignedConstant.is) (ap fault_of c.in-SignedConstant.is) c.in_ok-made-in-SignedConstant.ensures.value
