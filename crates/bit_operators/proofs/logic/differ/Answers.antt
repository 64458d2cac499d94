-- One of the two alone.
use Rattle.std.proofs.Common.{◌∙◌}
use Rattle.bit_graph.specs.Meaning.{edge_value}
use Rattle.bit_operators.proofs.OfLogic.{differ_is}
use Rattle.bit_operators.proofs.logic.differ.Goals as goal

pub returns-clause-value : goal.returns-clause-value
returns-clause-value c = λ v h. c.in_ok-e.ensures.value v h ∙ differ_is (edge_value v c.args.a) (edge_value v c.args.b)
