-- By the low bits of the amount.
use Rattle.std.proofs.Common.{◌+◌, min, length, ap, ◌∙◌}
use Rattle.smv_value.specs.declared.operator.Shift.TheVariants as shift
use Rattle.bit_values.specs.Bits.{least_bits}
use Rattle.bit_numbers.proofs.OfMoves.{moved_left, moved_right}
use Rattle.bit_numbers.proofs.shifts.moved.Goals as goal

pub returns-in_ok-made-in-Left-clause-value : goal.returns-in_ok-made-in-Left-clause-value
returns-in_ok-made-in-Left-clause-value c = λ v h w n.
    moved_left v c.args.o c.args.signed c.args.a.now c.args.amount.now c.in_ok-made-in-Left.made.items c.min-few.result c.constant-fill.result c.in-Left.is
    (c.min-few.ensures ∙ ap (min (length c.args.amount.now)) c.least_bits.ensures) (c.constant-fill.ensures.value v (c.in_ok-made-in-Left.ensures.extends.kept v h)) w n
    (c.in_ok-made-in-Left.ensures.value v h)

pub returns-in_ok-made-in-Right-clause-value : goal.returns-in_ok-made-in-Right-clause-value
returns-in_ok-made-in-Right-clause-value c = λ v h w n.
    moved_right v c.args.o c.args.signed c.args.a.now c.args.amount.now c.in_ok-made-in-Right.made.items c.min-few.result c.sign-fill.result c.in-Right.is
    (c.min-few.ensures ∙ ap (min (length c.args.amount.now)) c.least_bits.ensures) (c.sign-fill.ensures.value v (c.in_ok-made-in-Right.ensures.extends.kept v h)) n
    (c.in_ok-made-in-Right.ensures.value v h)
