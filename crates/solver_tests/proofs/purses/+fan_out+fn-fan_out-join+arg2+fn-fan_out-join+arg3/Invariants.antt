use Rattle.std.proofs.Common.{◌+◌, ◌-◌, ◌*◌}
use Rattle.solver_tests.proofs.purses.+fan_out+fn-fan_out-join+arg2+fn-fan_out-join+arg3.Given as goal

abbrev pub decreases-fan_out : goal.decreases-fan_out
decreases-fan_out g l = 2 * l.workers

abbrev pub decreases-join+arg2 : goal.decreases-join+arg2
decreases-join+arg2 g l = 2 * (l.workers - l.half) + 1

abbrev pub decreases-join+arg3 : goal.decreases-join+arg3
decreases-join+arg3 g l = 2 * l.half + 1
