-- Where no item speaks of paths, nothing is told of formulas.
use Rattle.std.proofs.Common.{List, subst}
use Rattle.smv_resolve.specs.declared.node.ExprNode.{ExprNode}
use Rattle.smv_resolve.specs.Resolved.{parts_of}
use Rattle.smv_slots.specs.Slots.{slots_of}
use Rattle.bit_states.specs.Coding.{inputs_of, state_of}
use Rattle.bit_faults.specs.Formulas.{TellsFormulas}
use Rattle.bit_faults.proofs.valuation.formulas_of.Goals as goal

pub returns-in_ok-none-clause-told : goal.returns-in_ok-none-clause-told
returns-in_ok-none-clause-told c = λ v consistent from given.
    let p = c.args.typed.now.scope.program in
    let s = state_of p v in
    let u = inputs_of p v in
    subst (λ (ns : List ExprNode). TellsFormulas v (slots_of p) s u c.in_ok-none.none (parts_of ns)) c.as_slice-else-some_paths.ensures (c.in_ok-none.ensures.told v (slots_of p) s u)
