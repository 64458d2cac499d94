-- The node was taken over.
use Rattle.std.proofs.Common.{subst}
use Rattle.std.specs.Prelude.{Option}
use Rattle.bit_graph.specs.declared.edge.Edge.{Edge}
use Rattle.bit_graph.specs.Values.{value_under}
use Rattle.bit_faults.specs.Cones.{Takes}
use Rattle.bit_faults.proofs.cones.take_over.Goals as goal

pub returns-in-Some-taken-clause-taken : goal.returns-in-Some-taken-clause-taken
returns-in-Some-taken-clause-taken c =
    let g = c.args.graph.now in
    let x = c.nodes.cone in
    subst (λ (o : Option Edge). Takes x.graph x.read.items o (λ a. value_under a g c.args.edge)) c.in-Some-taken.is
    (c.taken.ensures c.args.inputs g c.nodes.invariant.copies)
