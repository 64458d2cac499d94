-- What frozen slots and items allow of a step and of both states, and the domains.
use Rattle.std.proofs.Common.{◌≡◌, ◌∙◌, ◌&&◌, Bool, true, List, ap}
use Rattle.std.specs.List.{list_all}
use Rattle.smv_layout.specs.Layout.{items_of}
use Rattle.smv_slots.specs.Slots.{slots_of}
use Rattle.smv_meaning.specs.Runs.{allows_step, are_inputs, is_state, keeps_frozen, meets_invariants}
use Rattle.bit_graph.specs.Meaning.{edge_value}
use Rattle.bit_clauses.specs.declared.either.Either.{Either}
use Rattle.bit_clauses.specs.Asserted.{all_hold}
use Rattle.bit_outcomes.proofs.Kept.{extends_trans}
use Rattle.bit_conditions.specs.Told.{inputs_under, state_under}
use Rattle.bit_conditions.proofs.Kept.{tells_state_kept}
use Rattle.bit_conditions.proofs.OfStates.{step_is}
use Rattle.bit_conditions.proofs.conditions.step_conditions.Goals as goal

pub ask_always-requires-clause-state : goal.ask_always-requires-clause-state
ask_always-requires-clause-state c = tells_state_kept c.args.graph.now c.ask_step.new.graph c.in_ok-ask_step.ensures.extends c.args.typed.now c.args.from.now c.requires.from

pub ask_always-requires-2-clause-state : goal.ask_always-requires-2-clause-state
ask_always-requires-2-clause-state c =
    tells_state_kept c.args.graph.now c.ask_always.new.graph (extends_trans c.args.graph.now c.ask_step.new.graph c.ask_always.new.graph c.in_ok-ask_step.ensures.extends c.in_ok-ask_always.ensures.extends)
    c.args.typed.now c.args.to.now c.requires.to

pub returns-clause-asked : goal.returns-clause-asked
returns-clause-asked c = record {
  stand = c.in_ok-ask-3.ensures.stand;
  holds = λ v m.
      let p = c.args.typed.now.scope.program in
      let from = c.args.from.now in
      let inputs = c.args.inputs.now in
      let to = c.args.to.now in
      let s = state_under p v from.bits in
      let u = inputs_under p v inputs.bits in
      let t = state_under p v to.bits in
      let k = c.in_ok-ask_always-2.ensures.extends.kept v m in
      let h = c.in_ok-ask_always.ensures.extends.kept v k in
      let g = c.in_ok-ask_step.ensures.extends.kept v h in
      let old : Bool = all_hold v c.new-asked.result.items in
      let none : old ≡ true = ap (λ (es : List Either). all_hold v es) c.new-asked.ensures.items in
      let made : Bool = all_hold v c.ask_always-2.new.asked.items in
      let kept : Bool = keeps_frozen (slots_of p) s t in
      let allowed : Bool = list_all (allows_step (slots_of p) s u t) (items_of p) in
      let before : Bool = meets_invariants p s in
      let after : Bool = meets_invariants p t in
      let x = edge_value v from.valid in
      let y = edge_value v inputs.valid in
      let z = edge_value v to.valid in
      c.in_ok-ask-3.ensures.holds v m
      ∙ ap (λ (b : Bool). b && z) (c.in_ok-ask-2.ensures.holds v m ∙ ap (λ (b : Bool). b && y) (c.in_ok-ask.ensures.holds v m))
      ∙ step_is old (is_state p s) (are_inputs p u) (is_state p t) x y z made kept allowed before after none (c.requires.from.valid v g) (c.requires.inputs.valid v g) (c.requires.to.valid v g)
      (λ is are next.
      c.in_ok-ask_always-2.ensures.holds v m next
      ∙ ap (λ (b : Bool). b && after) (c.in_ok-ask_always.ensures.holds v k is
      ∙ ap (λ (b : Bool). b && before) (c.in_ok-ask_step.ensures.holds v h is are next ∙ ap (λ (b : Bool). b && allowed) (c.in_ok-ask_frozen.ensures.holds v g is next))));
}
