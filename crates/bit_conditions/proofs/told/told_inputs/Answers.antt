-- What is told by the edges of the inputs.
use Rattle.std.proofs.Common.{◌∙◌, ap}
use Rattle.std.specs.List.{list_all}
use Rattle.value_types.specs.Types.{is_type}
use Rattle.smv_slots.specs.Slots.{slots_of}
use Rattle.smv_slots.specs.Slots.{types_of}
use Rattle.smv_meaning.specs.Runs.{input_slots}
use Rattle.bit_states.proofs.OfSlots.{slot_types}
use Rattle.bit_outcomes.proofs.Kept.{edge_kept, extends_trans}
use Rattle.bit_conditions.proofs.Kept.{edges_kept}
use Rattle.bit_conditions.proofs.OfTold.{inputs_valid, inputs_values}
use Rattle.bit_conditions.proofs.told.told_inputs.Goals as goal

pub slot_values-requires-clause-declared : goal.slot_values-requires-clause-declared
slot_values-requires-clause-declared c =
    let p = c.args.typed.now.scope.program in
    ap (list_all is_type) c.requires.types ∙ slot_types (types_of p) (input_slots (slots_of p)) c.args.typed.now.right_types

pub returns-clause-told : goal.returns-clause-told
returns-clause-told c =
    let typed = c.args.typed.now in
    let p = typed.scope.program in
    let bits = c.args.bits in
    let types = c.args.types.now in
    let g = c.args.graph.now in
    let h = c.domain_edge.new.graph in
    let k = c.slot_values.new.graph in
    let first = c.in_ok-valid.ensures in
    let second = c.in_ok-values.ensures in
    record {
      bits = edges_kept g k (extends_trans g h k first.extends second.extends) bits c.requires.stand;
      width = c.requires.width;
      valid_stands = edge_kept h k second.extends c.in_ok-valid.valid first.stands;
      valid = λ v holds. inputs_valid p typed.right_types v types c.as_slice.result.now bits c.as_slice.ensures c.requires.types c.requires.width _ (first.value v (second.extends.kept v holds));
      values_stand = second.stand;
      values = λ v holds are.
          inputs_values p typed.right_types v types c.as_slice-2.result.now bits c.as_slice-2.ensures c.requires.types c.requires.width c.in_ok-values.values (second.values v holds) are;
    }
