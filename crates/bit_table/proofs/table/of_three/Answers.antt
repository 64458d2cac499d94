-- Some of a word's bits.
use Rattle.std.proofs.Common.{ap}
use Rattle.smv_value.specs.Results.{fault_of, selected, value_of}
use Rattle.bit_table.proofs.OfComputing.{given_three}
use Rattle.bit_table.proofs.table.of_three.Goals as goal

pub returns-in_ok-made-in-Select-clause-value : goal.returns-in_ok-made-in-Select-clause-value
returns-in_ok-made-in-Select-clause-value c = given_three c.args.graph.now c.args.operator selected c.args.a.now c.args.b.now c.args.c.now c.in_ok-made-in-Select.made (ap value_of c.in-Select.is) (ap fault_of c.in-Select.is) c.in_ok-made-in-Select.ensures.value
