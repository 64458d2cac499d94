-- The outcome of the expression as it is laid out, over the slots of the program.
use Rattle.std.proofs.Common.{◌≡◌, ◌∙◌, List, IfOk, ap, subst}
use Rattle.smv_slots.specs.declared.slot.Slot.{Slot}
use Rattle.smv_slots.specs.Slots.{slots_of}
use Rattle.smv_resolve.specs.declared.node.ExprNode.{ExprNode}
use Rattle.smv_resolve.specs.Resolved.{part_of}
use Rattle.smv_declared.specs.declared.variable_type.VariableType.{VariableType}
use Rattle.smv_layout.specs.Layout.{laid_expression, laid_value}
use Rattle.smv_value.specs.declared.value.Value.{Value}
use Rattle.smv_meaning.specs.declared.outcome.Evaluation.{Evaluation}
use Rattle.smv_meaning.specs.Values.{outcome}
use Rattle.smv_meaning.proofs.evaluation.outcome_of_resolved.Goals as goal

pub returns : goal.returns
returns c =
    let p = c.args.typed.now.scope.program in
    let slots = slots_of p in
    let from = c.args.resolved.now in
    let to = c.in_ok-laid.laid in
    let expression = laid_expression p (part_of from.nodes from.root) in
    let laid : part_of to.nodes to.root ≡ expression =
    c.in_ok-laid.ensures
    ∙ ap (λ (vs : List VariableType). laid_value vs (part_of from.nodes from.root)) (c.as_slice.ensures ∙ c.args.typed.now.written) in
    let found : outcome c.as_slice-2.result.now c.as_slice-4.result.now c.as_slice-5.result.now c.as_slice-6.result.now (part_of c.as_slice-3.result.now to.root)
    ≡ outcome slots c.args.s.now c.args.u.now c.args.next.now expression =
    ap (λ (ss : List Slot). outcome ss c.as_slice-4.result.now c.as_slice-5.result.now c.as_slice-6.result.now (part_of c.as_slice-3.result.now to.root)) (c.as_slice-2.ensures ∙ c.args.typed.now.laid_out)
    ∙ ap (λ (nodes : List ExprNode). outcome slots c.as_slice-4.result.now c.as_slice-5.result.now c.as_slice-6.result.now (part_of nodes to.root)) c.as_slice-3.ensures
    ∙ ap (λ (s : List Value). outcome slots s c.as_slice-5.result.now c.as_slice-6.result.now (part_of to.nodes to.root)) c.as_slice-4.ensures
    ∙ ap (λ (u : List Value). outcome slots c.args.s.now u c.as_slice-6.result.now (part_of to.nodes to.root)) c.as_slice-5.ensures
    ∙ ap (λ (t : List Value). outcome slots c.args.s.now c.args.u.now t (part_of to.nodes to.root)) c.as_slice-6.ensures
    ∙ ap (outcome slots c.args.s.now c.args.u.now c.args.next.now) laid in
    subst (λ (x : Evaluation). IfOk c.outcome_of-outcome.result (λ o. o ≡ x)) found c.outcome_of-outcome.ensures
