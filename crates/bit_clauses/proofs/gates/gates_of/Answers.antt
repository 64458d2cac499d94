-- The clauses of the graph are gates.
use Rattle.bit_clauses.proofs.Gating.{gated, inputs_fit}
use Rattle.bit_clauses.proofs.gates.gates_of.Goals as goal

pub returns-clause-gates : goal.returns-clause-gates
returns-clause-gates c =
    gated c.args.graph.now c.args.edges.now c.in_ok-cnf.cnf.vars c.in_ok-cnf.cnf.clauses c.in_ok-cnf.cnf.roots.items c.in_ok-cnf.ensures.law c.args.inputs c.requires.inputs
    c.in_ok-cnf.ensures.within c.requires.stand

pub returns-clause-vars : goal.returns-clause-vars
returns-clause-vars c =
    inputs_fit c.args.graph.now c.args.edges.now c.in_ok-cnf.cnf.vars c.in_ok-cnf.cnf.clauses c.in_ok-cnf.cnf.roots.items c.in_ok-cnf.ensures.law c.args.inputs c.requires.inputs
