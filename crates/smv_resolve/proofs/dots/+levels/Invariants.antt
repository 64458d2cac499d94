-- Each call either follows one parameter, or does less at the same depth.
use Rattle.std.proofs.Common.{◌+◌, ◌*◌}
use Rattle.smv_resolve.proofs.dots.+levels.Given as goal

abbrev pub decreases-levels_of_target : goal.decreases-levels_of_target
decreases-levels_of_target l = 3 * l.depth + 1

abbrev pub decreases-levels_within : goal.decreases-levels_within
decreases-levels_within l = 3 * l.depth

abbrev pub decreases-levels_by_node : goal.decreases-levels_by_node
decreases-levels_by_node l = 3 * l.depth + 2
