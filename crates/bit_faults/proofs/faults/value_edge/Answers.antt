-- The fault of the value, in the table of the item's kind.
use Rattle.std.proofs.Common.{◌≡◌, ◌∙◌, true, List, ap, sym}
use Rattle.std.specs.Prelude.{Option}
use Rattle.std.specs.List.{list_all}
use Rattle.std.specs.Option.{is_some, option_copied}
use Rattle.value_types.specs.declared.value_type.ValueType.{ValueType}
use Rattle.value_types.specs.Types.{is_type}
use Rattle.smv_resolve.specs.Items.{item_by, target_by}
use Rattle.smv_slots.specs.Slots.{slots_of}
use Rattle.smv_slots.specs.Slots.{types_of}
use Rattle.smv_meaning.specs.Faults.{fault_of_value, type_assigned}
use Rattle.smv_meaning.specs.Runs.{item_outcome}
use Rattle.bit_states.specs.Coding.{inputs_of, next_of, state_of}
use Rattle.bit_faults.proofs.OfItems.{assigned_type, item_given, of_types, other_fault}
use Rattle.bit_faults.proofs.OfSides.{value_stands, value_told}
use Rattle.bit_faults.proofs.faults.value_edge.Goals as goal

pub fault_of_value-requires-clause-declared : goal.fault_of_value-requires-clause-declared
fault_of_value-requires-clause-declared c = λ t at.
    let typed = c.args.typed.now in
    let types = c.as_slice.result.now in
    let all : list_all is_type types ≡ true = ap (list_all is_type) (c.as_slice.ensures ∙ typed.declared) ∙ typed.right_types in
    assigned_type types (target_by typed.nodes c.args.item.now.target) t all (sym (c.type_assigned-declared.ensures typed.nodes c.requires.slots) ∙ at)

pub fault_of_value-requires-clause-stands : goal.fault_of_value-requires-clause-stands
fault_of_value-requires-clause-stands c =
    value_stands c.args.graph.now c.args.typed.now c.args.valuation.now c.requires.valuation c.args.item.now.value c.args.item.now.kind c.index-told-item.result
    c.table_of-told.result.now c.table_of-told.ensures c.if-item-told.true c.index-told-item.is

pub returns-in_ok-edge-clause-told : goal.returns-in_ok-edge-clause-told
returns-in_ok-edge-clause-told c = λ v consistent all.
    let typed = c.args.typed.now in
    let p = typed.scope.program in
    let item = item_by typed.nodes c.args.item.now in
    let slots = slots_of p in
    let s = state_of p v in
    let u = inputs_of p v in
    let t = next_of p v in
    let is = of_types p v all in
    let o = item_outcome slots s u t item.value item.kind in
    let begins = item.begins in
    let first = c.in_ok-edge.ensures.extends.kept v consistent in
    let told =
    value_told c.args.graph.now typed c.args.valuation.now c.requires.valuation c.args.item.now.value c.args.item.now.kind c.index-told-item.result
    c.table_of-told.result.now c.table_of-told.ensures c.if-item-told.true c.index-told-item.is v first is in
    let declared : option_copied c.type_assigned-declared.result ≡ type_assigned (types_of p) item.target =
    c.type_assigned-declared.ensures typed.nodes c.requires.slots ∙ ap (λ (ts : List ValueType). type_assigned ts item.target) (c.as_slice.ensures ∙ typed.declared) in
    c.in_ok-edge.ensures.value v begins o consistent told (item_given slots s u t item c.requires.other (c.requires.known s u t is.from is.inputs is.to))
    ∙ ap (λ (d : Option ValueType). is_some (fault_of_value d begins o)) declared ∙ sym (ap is_some (other_fault slots s u t (types_of p) item c.requires.other))
