-- The value's own fault, or a value that is outside.
use Rattle.std.proofs.Common.{◌∙◌, ◌||◌, ap, sym}
use Rattle.std.specs.Prelude.{None, Option, Some}
use Rattle.std.specs.Option.{is_some, option_copied}
use Rattle.value_types.specs.declared.value_type.ValueType.{ValueType}
use Rattle.smv_meaning.specs.Faults.{fault_of_value}
use Rattle.bit_faults.proofs.OfItems.{value_fault}
use Rattle.bit_faults.proofs.faults.fault_of_value.Goals as goal

pub returns-in-None-clause-value : goal.returns-in-None-clause-value
returns-in-None-clause-value c = λ v begins o h told given.
    c.in_ok-fault.ensures.value v o told given
    ∙ sym (ap (λ (d : Option ValueType). is_some (fault_of_value d begins o)) (ap option_copied c.in-None.is) ∙ value_fault None begins o)

pub returns-in_ok-edge-in-Some-clause-value : goal.returns-in_ok-edge-in-Some-clause-value
returns-in_ok-edge-in-Some-clause-value c = λ v begins o h told given.
    let first = c.in_ok-edge-in-Some.ensures.extends.kept v h in
    let outside = c.in_ok-outside-in-Some.ensures.value v o first told given in
    let fault = c.in_ok-fault.ensures.value v o told given in
    c.in_ok-edge-in-Some.ensures.value v h ∙ (λ i. outside i || fault i)
    ∙ sym (ap (λ (d : Option ValueType). is_some (fault_of_value d begins o)) (ap option_copied c.in-Some.is) ∙ value_fault (Some c.in-Some.t.now) begins o)
