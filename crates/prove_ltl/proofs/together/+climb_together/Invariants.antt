-- How many greater counters are left.
use Rattle.std.proofs.Common.{◌-◌}
use Rattle.prove_ltl.proofs.together.+climb_together.Given as goal

abbrev pub decreases-climb_together : goal.decreases-climb_together
decreases-climb_together g l = l.effort.now.counter - l.k
