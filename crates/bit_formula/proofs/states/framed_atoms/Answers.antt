-- The atoms are the parts of their nodes.
use Rattle.std.proofs.Common.{◌≡◌, ◌∙◌, ◌&&◌, ℕ, Bool, List, [], map, ap, subst, sym, true}
use Rattle.std.specs.List.{list_all}
use Rattle.std.proofs.lemmas.Bool.{and_parts}
use Rattle.bit_graph.specs.Meaning.{edge_value}
use Rattle.smv_value.specs.declared.value.Value.{Value}
use Rattle.smv_slots.specs.Slots.{slots_of}
use Rattle.smv_meaning.specs.declared.outcome.Evaluation.{Evaluation}
use Rattle.smv_meaning.specs.Runs.{are_inputs, is_given, is_state, is_true}
use Rattle.smv_meaning.specs.Tables.{outcome_at, outcomes_of}
use Rattle.bit_outcomes.specs.declared.told.Told.{Told}
use Rattle.bit_outcomes.specs.Telling.{AllTold, TellsAll}
use Rattle.bit_outcomes.proofs.Kept.{all_told_kept}
use Rattle.bit_conditions.specs.Told.{inputs_under, state_under}
use Rattle.bit_formula.proofs.OfStates.{atoms_at, given_at}
use Rattle.bit_formula.proofs.states.framed_atoms.Goals as goal

pub atom_edges-requires-clause-told : goal.atom_edges-requires-clause-told
atom_edges-requires-clause-told c =
    subst (AllTold c.and.new.self) (sym c.as_slice.ensures) (all_told_kept c.told_moment.new.graph c.and.new.self c.in_ok-valid.ensures.extends c.in_ok-told.told c.in_ok-told.ensures.told.stand)

pub returns-clause-told : goal.returns-clause-told
returns-clause-told c = λ v holds.
    let typed = c.args.typed.now in
    let p = typed.scope.program in
    let slots = slots_of p in
    let atoms = c.args.atoms.now in
    let s : List Value = state_under p v c.args.state.now.bits in
    let u : List Value = inputs_under p v c.args.inputs.now.bits in
    let os : List Evaluation = outcomes_of slots s u [] typed.nodes in
    let there : Bool = is_state p s && are_inputs p u in
    let valid = c.in_ok-valid.valid in
    let second = c.in_ok-edges.ensures.extends.kept v holds in
    let first = c.in_ok-valid.ensures.extends.kept v second in
    let old = c.in_ok-told.ensures.extends.kept v first in
    let valid_is : edge_value v valid ≡ there = c.in_ok-valid.ensures.value v second ∙ (λ i. c.requires.state.valid v old i && c.requires.inputs.valid v old i) in
    let known : edge_value v valid ≡ true → TellsAll v c.as_slice.result.now os × (list_all (λ (a : ℕ). is_given (outcome_at os a)) atoms ≡ true) =
    λ on.
    let both = and_parts (is_state p s) (are_inputs p u) (sym valid_is ∙ on) in (
      subst (λ (ts : List Told). TellsAll v ts os) (sym c.as_slice.ensures) (c.in_ok-told.ensures.told.told v first both.0 both.1),
      given_at slots s u typed.nodes atoms (c.requires.given s u both.0 both.1),
    ) in
    c.in_ok-edges.ensures.value.tells v os holds known
    ∙ ap (λ (b : Bool). map (λ (a : ℕ). b && is_true (outcome_at os a)) atoms) valid_is
    ∙ atoms_at (λ (o : Evaluation). there && is_true o) slots s u typed.nodes atoms
