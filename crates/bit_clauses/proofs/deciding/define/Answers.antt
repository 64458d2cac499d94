-- Gates define the edges' values.
use Rattle.std.proofs.Common.{List, sym, subst}
use Rattle.clause_core.specs.declared.literal.Lit.{Lit}
use Rattle.clause_core.specs.Systems.{Gives}
use Rattle.bit_clauses.specs.Gated.{DefinesEdges}
use Rattle.bit_clauses.proofs.Defining.{gates_define, gates_give}
use Rattle.bit_clauses.proofs.deciding.define.Goals as goal

pub returns-clause-defines : goal.returns-clause-defines
returns-clause-defines c =
    let gates = c.in_ok-gates.gates in
    subst (λ (ls : List Lit). DefinesEdges c.args.inputs c.args.graph.now c.args.edges.now gates.clauses ls) (sym c.from_vec-literals.ensures)
    (gates_define c.args.inputs c.args.graph.now c.args.edges.now gates.clauses gates.literals.items c.in_ok-gates.ensures.gates)

pub returns-clause-gives : goal.returns-clause-gives
returns-clause-gives c =
    let gates = c.in_ok-gates.gates in
    subst (λ (ls : List Lit). Gives c.args.inputs ls gates.clauses) (sym c.from_vec-literals.ensures)
    (gates_give c.args.inputs c.args.graph.now c.args.edges.now gates.clauses gates.literals.items c.in_ok-gates.ensures.gates)
