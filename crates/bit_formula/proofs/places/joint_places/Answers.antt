-- Not more bits than there are.
use Rattle.std.proofs.Common.{◌≡◌, ◌∙◌, List, ap, arith}
use Rattle.value_types.specs.declared.value_type.ValueType.{ValueType}
use Rattle.bit_formula.specs.Coding.{width_at}
use Rattle.bit_formula.proofs.Starts.{width_parts}
use Rattle.bit_formula.proofs.places.joint_places.Goals as goal

pub overflow_add-joint : goal.overflow_add-joint
overflow_add-joint c =
    let types = c.args.of_inputs in
    let reads = c.args.reads.now in
    let is : c.read_width.result ≡ width_at types reads = c.read_width.ensures ∙ ap (λ (ts : List ValueType). width_at ts reads) c.as_slice.ensures in
    omega (arith, is, width_parts types reads c.requires.order, c.requires.few, c.requires.small)
