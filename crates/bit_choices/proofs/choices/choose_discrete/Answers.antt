-- By the condition, or by its negation.
use Rattle.std.specs.Prelude.{Some}
use Rattle.bit_graph.specs.Meaning.{edge_value}
use Rattle.bit_operators.specs.Denoting.{discrete_value}
use Rattle.bit_choices.proofs.OfValues.{negation_is, turned_choice}
use Rattle.bit_choices.proofs.choices.choose_discrete.Goals as goal

pub returns-in_ok-d-clause-value : goal.returns-in_ok-d-clause-value
returns-in_ok-d-clause-value c = λ v p h g.
    c.in_ok-d.ensures.value v p h
    (turned_choice (edge_value v c.negation.result) (edge_value v c.args.condition) (discrete_value v c.args.x.now) (discrete_value v c.args.y.now) (Some p)
    (negation_is v c.args.condition c.negation.result c.negation.ensures) g)
