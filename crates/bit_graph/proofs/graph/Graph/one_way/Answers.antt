use Rattle.bit_graph.proofs.Unique.{one_way}
use Rattle.bit_graph.proofs.graph.Graph.one_way.Goals as goal

pub returns : goal.returns
returns c = record { law = one_way _ c.len.ensures.acyclic }
