-- The formulas are those of the program.
use Rattle.std.proofs.Common.{◌≡◌, ◌∙◌, ◌&&◌, List, [], map, ap, sym, subst}
use Rattle.std.specs.List.{filter, list_all}
use Rattle.smv_slots.specs.Slots.{slots_of}
use Rattle.smv_resolve.specs.declared.item.Item.{Item}
use Rattle.smv_meaning.specs.Runs.{is_given, is_true}
use Rattle.smv_meaning.specs.Tables.{outcome_at, outcomes_of}
use Rattle.bit_graph.specs.Meaning.{edge_value}
use Rattle.bit_outcomes.specs.declared.told.Told.{Told}
use Rattle.bit_outcomes.specs.Telling.{TellsAll}
use Rattle.bit_conditions.specs.Asked.{is_justice}
use Rattle.bit_conditions.specs.Told.{state_under}
use Rattle.bit_conditions.proofs.OfItems.{just_told, justs_given}
use Rattle.bit_conditions.proofs.justice.just_edges.Goals as goal

pub returns-clause-told : goal.returns-clause-told
returns-clause-told c = record {
  stand = c.in_ok-edges.ensures.stand;
  told = λ v h.
      let typed = c.args.typed.now in
      let p = typed.scope.program in
      let state = c.args.state.now in
      let s = state_under p v state.bits in
      let os = outcomes_of (slots_of p) s [] [] typed.nodes in
      let before = c.in_ok-edges.ensures.extends.kept v h in
      let valid = c.requires.valid v before in
      let items : c.deref.result.now ≡ filter (λ (x : Item). is_justice x.kind) typed.items =
      c.deref.ensures.value ∙ c.in_ok-items.ensures ∙ ap (filter (λ (x : Item). is_justice x.kind)) c.as_slice.ensures in
      c.in_ok-edges.ensures.told v os h
      (λ is. subst (λ (ts : List Told). TellsAll v ts os) (sym c.as_slice-2.ensures) (c.requires.told v before (sym valid ∙ is)))
      (λ is. ap (list_all (λ (x : Item). is_given (outcome_at os x.value))) items ∙ justs_given typed s c.requires.inputs.given (sym valid ∙ is) c.requires.inputs.typed)
      ∙ ap (map (λ (x : Item). edge_value v state.valid && is_true (outcome_at os x.value))) items
      ∙ just_told typed s (edge_value v state.valid) valid;
}
