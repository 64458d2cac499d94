-- How many greater counters are left.
use Rattle.std.proofs.Common.{◌-◌}
use Rattle.prove_ltl.proofs.leaping.+leap.Given as goal

abbrev pub decreases-leap : goal.decreases-leap
decreases-leap g l = l.effort.now.counter - l.k
