use Rattle.std.proofs.Common.{◌+◌, ◌*◌}
use Rattle.work_crew.proofs.crew.+fan_out+fn-fan_out-join+arg2+fn-fan_out-join+arg3.Given as goal

abbrev pub decreases-fan_out : goal.decreases-fan_out
decreases-fan_out g l = 2 * g.C.Craft.parts l.hand

abbrev pub decreases-join+arg2 : goal.decreases-join+arg2
decreases-join+arg2 g l = 2 * g.C.Craft.parts l.hand + 1

abbrev pub decreases-join+arg3 : goal.decreases-join+arg3
decreases-join+arg3 g l = 2 * g.C.Craft.parts l.other + 1
