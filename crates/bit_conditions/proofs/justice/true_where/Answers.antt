-- The edge of the node, beside the other.
use Rattle.std.proofs.Common.{◌∙◌, refl}
use Rattle.smv_meaning.specs.Runs.{is_true}
use Rattle.smv_meaning.specs.Tables.{outcome_at}
use Rattle.bit_graph.specs.Meaning.{edge_value}
use Rattle.bit_conditions.proofs.OfStates.{where_valid}
use Rattle.bit_conditions.proofs.justice.true_where.Goals as goal

pub returns-clause-value : goal.returns-clause-value
returns-clause-value c = λ v os h tells given.
    c.in_ok-edge.ensures.value v h
    ∙ where_valid (edge_value v c.args.valid) (edge_value v c.args.valid) (edge_value v c.in_ok-here.here) (is_true (outcome_at os c.args.k)) refl
    (λ is. c.in_ok-here.ensures.value v os (c.in_ok-edge.ensures.extends.kept v h) (tells is) (given is))
