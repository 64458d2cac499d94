use Rattle.smv_value.proofs.Joining.{joined_fits, joined_is}
use Rattle.smv_value.proofs.words.joined.Goals as goal

pub overflow_add-result-then-width-low_width-le128 :
    goal.overflow_add-result-then-width-low_width-le128
overflow_add-result-then-width-low_width-le128 c =
    record { fits = joined_fits c.args.width c.args.low_width c.args.a c.args.b c.requires.left c.requires.right c.if-width-low_width-le128.true }

pub returns-then-width-low_width-le128 : goal.returns-then-width-low_width-le128
returns-then-width-low_width-le128 c =
    joined_is c.args.width c.args.low_width c.args.a c.args.b c.requires.left c.requires.right c.if-width-low_width-le128.true
