use Rattle.std.proofs.Common.{◌∙◌}
use Rattle.smv_value.proofs.Bits.{low_added, low_multiplied, low_subtracted}
use Rattle.smv_value.proofs.words.sum_bits.Goals as goal

pub returns-in-Add : goal.returns-in-Add
returns-in-Add c = λ s. rw c.in-Add.is (c.low.ensures ∙ low_added s c.args.width c.args.a c.args.b c.requires.left c.requires.right)

pub returns-in-Subtract : goal.returns-in-Subtract
returns-in-Subtract c = λ s. rw c.in-Subtract.is (c.low-in-Subtract.ensures ∙ low_subtracted s c.args.width c.args.a c.args.b c.requires.left c.requires.right)

pub returns-in-Multiply : goal.returns-in-Multiply
returns-in-Multiply c = λ s. rw c.in-Multiply.is (c.low-in-Multiply.ensures ∙ low_multiplied s c.args.width c.args.a c.args.b c.requires.left c.requires.right)
