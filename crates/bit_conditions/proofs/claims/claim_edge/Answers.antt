-- The specification's value in a state, beside the state's domain.
use Rattle.std.proofs.Common.{◌∙◌, List, [], subst, sym}
use Rattle.smv_slots.specs.Slots.{slots_of}
use Rattle.smv_resolve.specs.Items.{item_by}
use Rattle.smv_meaning.specs.Runs.{is_state}
use Rattle.smv_meaning.specs.Tables.{outcomes_of}
use Rattle.smv_meaning.specs.Values.{outcome_in}
use Rattle.bit_graph.specs.Meaning.{edge_value}
use Rattle.bit_outcomes.specs.declared.told.Told.{Told}
use Rattle.bit_outcomes.specs.Asked.{is_false}
use Rattle.bit_outcomes.specs.Telling.{TellsAll}
use Rattle.bit_conditions.specs.Told.{state_under}
use Rattle.bit_conditions.proofs.OfStates.{where_valid}
use Rattle.bit_conditions.proofs.OfItems.{spec_given, spec_value}
use Rattle.bit_conditions.proofs.claims.claim_edge.Goals as goal

pub returns-clause-value : goal.returns-clause-value
returns-clause-value c = λ v h.
    let typed = c.args.typed.now in
    let p = typed.scope.program in
    let state = c.args.state.now in
    let spec = c.args.spec in
    let s = state_under p v state.bits in
    let os = outcomes_of (slots_of p) s [] [] typed.nodes in
    let first = c.in_ok-edge.ensures.extends.kept v h in
    let before = c.in_ok-broken.ensures.extends.kept v first in
    c.in_ok-edge.ensures.value v h
    ∙ where_valid (edge_value v state.valid) (is_state p s) (edge_value v c.in_ok-broken.broken) (is_false (outcome_in (slots_of p) s (item_by typed.nodes spec).value)) (c.requires.state.valid v before)
    (λ is. c.in_ok-broken.ensures.value v os first (subst (λ (ts : List Told). TellsAll v ts os) (sym c.as_slice.ensures) (c.requires.state.told v before is))
    (spec_given typed s c.requires.state.inputs.given spec c.requires.among c.requires.invariant is c.requires.state.inputs.typed) ∙ spec_value typed s spec)
