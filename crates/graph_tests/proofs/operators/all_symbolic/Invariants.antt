use Rattle.bit_numbers.specs.Counts.{AllStandIn}
use Rattle.graph_tests.proofs.operators.all_symbolic.Given as goal

abbrev pub invariant-operands : goal.invariant-operands
invariant-operands l = AllStandIn l.graph l.made.items
