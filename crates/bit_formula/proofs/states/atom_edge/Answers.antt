-- Where the state and the inputs are, the node is told.
use Rattle.std.proofs.Common.{◌∙◌}
use Rattle.bit_graph.specs.Meaning.{edge_value}
use Rattle.smv_meaning.specs.Runs.{is_true}
use Rattle.smv_meaning.specs.Tables.{outcome_at}
use Rattle.bit_formula.proofs.OfStates.{true_where}
use Rattle.bit_formula.proofs.states.atom_edge.Goals as goal

pub returns-clause-value : goal.returns-clause-value
returns-clause-value c = λ v os holds known.
    let before = c.in_ok-edge.ensures.extends.kept v holds in
    c.in_ok-edge.ensures.value v holds
    ∙ true_where (edge_value v c.args.valid) (edge_value v c.in_ok-truth.truth) (is_true (outcome_at os c.args.atom))
    (λ valid. c.in_ok-truth.ensures.value v os before (known valid).0 (known valid).1)
