-- The bits are the code of the state.
use Rattle.std.proofs.Common.{◌∙◌, Bool, List, ap}
use Rattle.value_types.specs.declared.value_type.ValueType.{ValueType}
use Rattle.clause_core.specs.Assignments.{assignment_of}
use Rattle.bit_states.specs.Coding.{state_of}
use Rattle.bit_states.specs.Layouts.{BitLayout}
use Rattle.bit_states.specs.Values.{encoded_all}
use Rattle.bit_states.proofs.Codes.{coding}
use Rattle.bit_system.proofs.coding.Built.encode.Goals as goal

abbrev types_of_state : BitLayout → List ValueType
types_of_state layout = layout.state_types

pub returns-clause-code : goal.returns-clause-code
returns-clause-code c = λ p built is.
    ap (λ (bits : List Bool). state_of p (assignment_of bits))
    (c.from_vec.ensures ∙ c.in_ok-bits.ensures ∙ ap (λ (types : List ValueType). encoded_all types c.args.s.now) (ap types_of_state (c.layout.ensures ∙ built.layout)))
    ∙ (coding p built.types).back c.args.s.now is
