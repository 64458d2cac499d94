-- How deep parts may nest.
use Rattle.std.proofs.Common.{◌+◌, ◌*◌}
use Rattle.front_tests.proofs.shapes.+put.Given as goal

abbrev pub decreases-put : goal.decreases-put
decreases-put l = 2 * l.depth

abbrev pub decreases-put_within : goal.decreases-put_within
decreases-put_within l = 2 * l.depth + 1

abbrev pub decreases-put_applied : goal.decreases-put_applied
decreases-put_applied l = 2 * l.depth + 1

abbrev pub decreases-put_chain : goal.decreases-put_chain
decreases-put_chain l = 2 * l.depth + 1
