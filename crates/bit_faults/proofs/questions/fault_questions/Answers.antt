-- The bits of the layout are the inputs of the graph.
use Rattle.std.proofs.Common.{◌∙◌, ◌+◌, List, map, ap, subst, arith}
use Rattle.smv_resolve.specs.Items.{ResolvedItem, item_by}
use Rattle.bit_states.specs.Layouts.{input_width, state_width}
use Rattle.bit_faults.specs.Questions.{AreQuestions}
use Rattle.bit_faults.proofs.Judging.{all_known}
use Rattle.bit_faults.proofs.OfSides.{input_bits, long_range, next_bits, state_bits, valuation_kept}
use Rattle.bit_faults.proofs.questions.fault_questions.Goals as goal

pub valuation_of-requires-clause-room : goal.valuation_of-requires-clause-room
valuation_of-requires-clause-room c =
    let p = c.args.typed.now.scope.program in
    let w = state_width p in
    let n = input_width p in
    let first = long_range c.state.result.now 0 w (c.state.ensures ∙ ap state_bits c.requires.layout) in
    let second = long_range c.next.result.now w w (c.next.ensures ∙ ap next_bits c.requires.layout) in
    let third = long_range c.inputs.result.now (w + w) n (c.inputs.ensures ∙ ap input_bits c.requires.layout) in
    omega (arith, first, second, third, c.in_ok-graph.ensures.length)

pub questions_of-requires-clause-valuation : goal.questions_of-requires-clause-valuation
questions_of-requires-clause-valuation c =
    valuation_kept c.valuation_of.new.graph c.known_domains.new.graph c.in_ok-domains.ensures.extends c.args.typed.now c.in_ok-valuation.valuation c.in_ok-valuation.ensures.told

pub questions_of-requires-clause-known : goal.questions_of-requires-clause-known
questions_of-requires-clause-known c =
    let typed = c.args.typed.now in
    all_known typed c.as_slice-2.result.now (ap (map (item_by typed.nodes)) c.as_slice-2.ensures ∙ c.in_ok-items.ensures)

pub returns : goal.returns
returns c =
    let typed = c.args.typed.now in
    subst (λ (xs : List ResolvedItem). AreQuestions typed.scope.program xs c.in_ok-questions.questions.items)
    (ap (map (item_by typed.nodes)) c.as_slice-2.ensures ∙ c.in_ok-items.ensures) c.in_ok-questions.ensures
