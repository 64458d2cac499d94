use Rattle.bit_graph.proofs.Grown.{start_inputs, start_ok}
use Rattle.bit_graph.proofs.graph.Graph.new.Goals as goal

pub invariant_of-result : goal.invariant_of-result
invariant_of-result c = rw c.in_ok-nodes.ensures (start_ok c.args.inputs c.new.result.entries c.new.ensures.empty)

pub returns-clause-inputs : goal.returns-clause-inputs
returns-clause-inputs c = rw c.in_ok-nodes.ensures (start_inputs c.args.inputs)
