use Rattle.bit_graph.proofs.Grown.{reduced}
use Rattle.bit_graph.proofs.graph.Graph.reduced.Goals as goal

pub returns : goal.returns
returns c =
    record { law = rw (← c.self.view_is) (reduced c.self.inside.nodes.items c.self.inside.shared.entries c.self.invariant.1 c.self.invariant.3) }
