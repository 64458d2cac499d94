use Rattle.bit_graph.specs.declared.edge.GraphNode.TheVariants.{And, Xor, Choice}
use Rattle.cnf_build.proofs.Cones.{operands_in}
use Rattle.cnf_build.proofs.cone.mark_operands.Goals as goal

pub returns-in-And-clause-least : goal.returns-in-And-clause-least
returns-in-And-clause-least c = λ live reach below.
    let both = operands_in live c.args.node (And c.in-And.a c.in-And.b) c.in-And.is reach in
    c.mark-in-And.ensures.least live both.1 (c.mark.ensures.least live both.0 below)

pub returns-in-Xor-clause-least : goal.returns-in-Xor-clause-least
returns-in-Xor-clause-least c = λ live reach below.
    let both = operands_in live c.args.node (Xor c.in-Xor.a c.in-Xor.b) c.in-Xor.is reach in
    c.mark-in-Xor-2.ensures.least live both.1 (c.mark-in-Xor.ensures.least live both.0 below)

pub returns-in-Choice-clause-least : goal.returns-in-Choice-clause-least
returns-in-Choice-clause-least c = λ live reach below.
    let all = operands_in live c.args.node (Choice c.in-Choice.c c.in-Choice.a c.in-Choice.b) c.in-Choice.is reach in
    c.mark-in-Choice-3.ensures.least live all.2
    (c.mark-in-Choice-2.ensures.least live all.1 (c.mark-in-Choice.ensures.least live all.0 below))
