use Rattle.std.proofs.Common.{sym}
use Rattle.bit_graph.proofs.Grown.{found_value, new_from_none}
use Rattle.bit_graph.proofs.graph.Graph.find_or_grow.Goals as goal

pub returns-in-Some-clause-stands : goal.returns-in-Some-clause-stands
returns-in-Some-clause-stands c =
    rw (← c.self.view_is) (c.self.invariant.1.found c.args.gate c.in-Some.node.now (sym c.in-Some.ensures.value)).0

pub returns-in-Some-clause-value : goal.returns-in-Some-clause-value
returns-in-Some-clause-value c = λ v h.
    found_value v c.self.inside.nodes.items c.args.gate c.in-Some.node.now c.requires.gate
    (c.self.invariant.1.found c.args.gate c.in-Some.node.now (sym c.in-Some.ensures.value))
    (rw c.self.view_is h)

pub grow-requires-clause-new : goal.grow-requires-clause-new
grow-requires-clause-new c =
    rw (← c.self.view_is) (new_from_none c.self.inside.nodes.items c.self.inside.shared.entries c.args.gate c.requires.gate c.self.invariant.1 c.in-None.ensures.value)
