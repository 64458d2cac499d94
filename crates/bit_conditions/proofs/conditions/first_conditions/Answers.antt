-- What the items allow of a state, and the state's domain.
use Rattle.std.proofs.Common.{◌≡◌, ◌∙◌, true, List, ap}
use Rattle.std.specs.List.{list_all}
use Rattle.smv_layout.specs.Layout.{items_of}
use Rattle.smv_slots.specs.Slots.{slots_of}
use Rattle.smv_meaning.specs.Runs.{allows_first, is_state}
use Rattle.bit_graph.specs.Meaning.{edge_value}
use Rattle.bit_clauses.specs.declared.either.Either.{Either}
use Rattle.bit_clauses.specs.Asserted.{all_hold}
use Rattle.bit_conditions.specs.Told.{state_under}
use Rattle.bit_conditions.proofs.OfStates.{first_is}
use Rattle.bit_conditions.proofs.conditions.first_conditions.Goals as goal

pub returns-clause-asked : goal.returns-clause-asked
returns-clause-asked c = record {
  stand = c.in_ok-ask.ensures.stand;
  holds = λ v h.
      let p = c.args.typed.now.scope.program in
      let state = c.args.state.now in
      let s = state_under p v state.bits in
      let none : all_hold v c.new-asked.result.items ≡ true = ap (λ (es : List Either). all_hold v es) c.new-asked.ensures.items in
      c.in_ok-ask.ensures.holds v h
      ∙ first_is (edge_value v state.valid) (is_state p s) (all_hold v c.new-asked.result.items) (all_hold v c.ask_first.new.asked.items) (list_all (allows_first (slots_of p) s) (items_of p)) none
      (c.requires.valid v (c.in_ok-ask_first.ensures.extends.kept v h)) (λ is. c.in_ok-ask_first.ensures.holds v h is);
}
