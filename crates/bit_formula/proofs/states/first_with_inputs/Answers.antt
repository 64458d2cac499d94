-- What is asked of the state, and that the inputs are some.
use Rattle.std.proofs.Common.{◌∙◌, ◌&&◌, arith}
use Rattle.bit_formula.proofs.states.first_with_inputs.Goals as goal

pub ask-requires-clause-edge : goal.ask-requires-clause-edge
ask-requires-clause-edge c = omega (arith, c.in_ok-first.ensures.extends.longer, c.requires.inputs.valid_stands)

pub returns-clause-told : goal.returns-clause-told
returns-clause-told c = record {
  stand = c.in_ok-ask.ensures.stand;
  holds = λ v holds.
      c.in_ok-ask.ensures.holds v holds ∙ (λ i. c.in_ok-first.ensures.asked.holds v holds i && c.requires.inputs.valid v (c.in_ok-first.ensures.extends.kept v holds) i);
}
