-- What is told by the edges of the state, and by the values of its slots.
use Rattle.std.proofs.Common.{◌∙◌, [], refl, ap}
use Rattle.std.specs.List.{list_all}
use Rattle.value_types.specs.Types.{is_type}
use Rattle.smv_slots.specs.Slots.{slots_of}
use Rattle.smv_slots.specs.Slots.{types_of}
use Rattle.smv_meaning.specs.Runs.{state_slots}
use Rattle.bit_states.proofs.OfSlots.{slot_types}
use Rattle.bit_outcomes.proofs.Kept.{edge_kept, extends_trans, symbolics_kept}
use Rattle.bit_conditions.specs.Told.{state_under}
use Rattle.bit_conditions.proofs.Kept.{edges_kept}
use Rattle.bit_conditions.proofs.SomeInputs.{some_inputs}
use Rattle.bit_conditions.proofs.OfTold.{state_valid, state_values, table_told}
use Rattle.bit_conditions.proofs.told.told_state.Goals as goal

pub slot_values-requires-clause-declared : goal.slot_values-requires-clause-declared
slot_values-requires-clause-declared c =
    let p = c.args.typed.now.scope.program in
    ap (list_all is_type) c.requires.types ∙ slot_types (types_of p) (state_slots (slots_of p)) c.args.typed.now.right_types

pub returns-clause-told : goal.returns-clause-told
returns-clause-told c =
    let typed = c.args.typed.now in
    let p = typed.scope.program in
    let bits = c.args.bits in
    let types = c.args.types.now in
    let nowhere = c.args.nowhere.now in
    let g = c.args.graph.now in
    let h = c.domain_edge.new.graph in
    let k = c.slot_values.new.graph in
    let m = c.table.new.graph in
    let first = c.in_ok-valid.ensures in
    let second = c.in_ok-values.ensures in
    let made = c.in_ok-told.ensures in
    let values = c.in_ok-values.values in
    let after = extends_trans h k m second.extends made.extends in
    let have = c.in_ok-some_inputs.ensures in
    record {
      inputs = some_inputs p typed.right_types have;
      bits = edges_kept g m (extends_trans g h m first.extends after) bits c.requires.stand;
      width = c.requires.width;
      valid_stands = edge_kept h m after c.in_ok-valid.valid first.stands;
      valid = λ v holds. state_valid p typed.right_types v types c.as_slice.result.now bits c.as_slice.ensures c.requires.types c.requires.width _ (first.value v (after.kept v holds));
      values_stand = symbolics_kept k m made.extends values second.stand;
      values = λ v holds is.
          state_values p typed.right_types v types c.as_slice-2.result.now bits c.as_slice-2.ensures c.requires.types c.requires.width values (second.values v (made.extends.kept v holds)) is;
      told_stand = made.stand;
      told = λ v holds is.
          let before = made.extends.kept v holds in
          table_told typed v c.as_slice-3.result.now c.as_slice-4.result.now c.as_slice-3.ensures c.as_slice-4.ensures values [] c.as_slice-5.result.now []
          nowhere nowhere c.in_ok-told.told c.as_slice-5.ensures refl refl (λ s u t ds du later. made.told v s u t holds ds du later)
          (state_under p v bits) [] []
          (state_values p typed.right_types v types c.as_slice-2.result.now bits c.as_slice-2.ensures c.requires.types c.requires.width values (second.values v before) is) tt
          (c.requires.nowhere.told v (first.extends.kept v (after.kept v holds)));
    }
