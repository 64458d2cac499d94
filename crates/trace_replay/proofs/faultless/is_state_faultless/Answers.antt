-- No item that asks something faults by the outcomes of nodes just where none does as resolved.
use Rattle.std.proofs.Common.{◌≡◌, ◌∙◌, not, ◌||◌, List, [], map, ap}
use Rattle.std.specs.List.{list_all}
use Rattle.std.specs.Option.{is_none}
use Rattle.smv_resolve.specs.Items.{ResolvedItem}
use Rattle.smv_resolve.specs.Resolved.{parts_of}
use Rattle.smv_slots.specs.Slots.{slots_of, types_of}
use Rattle.value_types.specs.declared.value_type.ValueType.{ValueType}
use Rattle.smv_meaning.specs.declared.outcome.Evaluation.{Evaluation}
use Rattle.smv_meaning.specs.Faults.{item_fault, slot_assigned}
use Rattle.smv_meaning.specs.Tables.{outcomes_of}
use Rattle.trace_replay.specs.Faultless.{is_asking}
use Rattle.trace_replay.specs.Tables.{all_faultless_by}
use Rattle.trace_replay.proofs.OfFaults.{in_state}
use Rattle.trace_replay.proofs.faultless.is_state_faultless.Goals as goal

pub returns : goal.returns
returns c =
    let typed = c.args.typed.now in
    let p = typed.scope.program in
    let s = c.args.s.now in
    let asked = c.args.asked in
    let assigned = map slot_assigned (parts_of typed.nodes) in
    let here : c.as_slice-2.result.now ≡ outcomes_of (slots_of p) s [] [] typed.nodes =
    cc (c.as_slice-2.ensures.value, c.in_ok-here.ensures, c.slots.ensures, c.as_slice-nodes.ensures, c.as_slice.ensures) in
    c.in_ok-faultless.ensures
    ∙ ap (λ (ts : List ValueType). all_faultless_by asked ts assigned c.as_slice-2.result.now typed.items) typed.declared
    ∙ ap (λ (os : List Evaluation). all_faultless_by asked (types_of p) assigned os typed.items) here
    ∙ in_state (types_of p) (slots_of p) typed.nodes asked s typed.items
    ∙ ap (list_all (λ (x : ResolvedItem). not (is_asking asked x.kind) || is_none (item_fault (types_of p) (slots_of p) s [] [] x))) typed.resolved
