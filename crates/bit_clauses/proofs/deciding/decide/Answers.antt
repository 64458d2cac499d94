-- The conditions' clauses behind those of their gates.
use Rattle.std.proofs.Common.{◌≡◌, ◌∙◌, ◌+◌, ◌<◌, ◌≤◌, ◌⊎◌, List, length, map, ap, sym, subst}
use Rattle.std.specs.List.{All}
use Rattle.bit_graph.specs.declared.edge.Edge.{Edge}
use Rattle.bit_graph.specs.Meaning.{Stands}
use Rattle.clause_core.specs.declared.literal.Lit.{Lit}
use Rattle.bit_clauses.specs.Nodes.{edge_of, literals_in}
use Rattle.bit_clauses.proofs.Results.{all_made, decided, same_length, stand_of}
use Rattle.bit_clauses.proofs.deciding.decide.Goals as goal

pub gates_behind-requires-clause-stand : goal.gates_behind-requires-clause-stand
gates_behind-requires-clause-stand c =
    subst (λ (es : List Edge). All (Stands c.args.graph.now) es) (sym (c.deref.ensures.value ∙ c.in_ok-edges.ensures))
    (stand_of c.args.graph.now c.in_ok-conditions.conditions c.in_ok-conditions.ensures.within)

pub with_conditions-requires : goal.with_conditions-requires
with_conditions-requires c =
    let gates = c.in_ok-gates.gates in
    ap length c.deref-2.ensures.value
    ∙ same_length c.args.inputs c.args.graph.now c.in_ok-conditions.conditions c.deref.result.now gates.clauses gates.literals.items c.in_ok-gates.ensures.gates (c.deref.ensures.value ∙ c.in_ok-edges.ensures)

pub returns-clause-decides : goal.returns-clause-decides
returns-clause-decides c =
    let gates = c.in_ok-gates.gates in
    decided c.args.inputs c.args.graph.now c.in_ok-conditions.conditions c.deref.result.now gates.clauses gates.literals.items c.in_ok-gates.ensures.gates (c.deref.ensures.value ∙ c.in_ok-edges.ensures)
    c.args.asked.now c.in_ok-clauses.clauses c.one_way.ensures.law c.in_ok-conditions.ensures.value (λ f is. c.in_ok-clauses.ensures f (c.deref-2.ensures.value ∙ is))

pub returns-clause-within : goal.returns-clause-within
returns-clause-within c =
    let gates = c.in_ok-gates.gates in
    all_made c.args.inputs c.args.graph.now c.in_ok-conditions.conditions c.deref.result.now gates.clauses gates.literals.items c.in_ok-gates.ensures.gates (c.deref.ensures.value ∙ c.in_ok-edges.ensures)
    (λ (l : Lit). l.var < gates.vars) c.in_ok-clauses.clauses (λ f is. c.in_ok-clauses.ensures f (c.deref-2.ensures.value ∙ is)) c.in_ok-gates.ensures.within c.in_ok-gates.ensures.literals_within

pub returns-clause-skips : goal.returns-clause-skips
returns-clause-skips c =
    let gates = c.in_ok-gates.gates in
    let n = c.args.inputs in
    all_made n c.args.graph.now c.in_ok-conditions.conditions c.deref.result.now gates.clauses gates.literals.items c.in_ok-gates.ensures.gates (c.deref.ensures.value ∙ c.in_ok-edges.ensures)
    (λ (l : Lit). (l.var < n) ⊎ (n + c.args.by ≤ l.var)) c.in_ok-clauses.clauses (λ f is. c.in_ok-clauses.ensures f (c.deref-2.ensures.value ∙ is)) c.in_ok-gates.ensures.skips
    c.in_ok-gates.ensures.literals_skip
