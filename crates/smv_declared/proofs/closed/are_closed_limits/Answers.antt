-- Both limits are the same.
use Rattle.smv_declared.proofs.Instances.{closed_limits}
use Rattle.smv_declared.proofs.closed.are_closed_limits.Goals as goal

pub returns-then-is_closed : goal.returns-then-is_closed
returns-then-is_closed c = λ e.
    closed_limits c.args.scope.now.program c.args.from c.args.low.now c.args.high.now (c.is_closed.ensures c.if-is_closed.true) (c.is_closed-then-is_closed.ensures e)
