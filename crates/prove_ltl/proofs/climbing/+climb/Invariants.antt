-- How many greater counters are left.
use Rattle.std.proofs.Common.{◌-◌}
use Rattle.prove_ltl.proofs.climbing.+climb.Given as goal

abbrev pub decreases-climb : goal.decreases-climb
decreases-climb g l = l.effort.now.counter - l.k
