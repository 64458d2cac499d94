-- Each call either follows one parameter, or does less at the same depth.
use Rattle.std.proofs.Common.{◌+◌, ◌*◌}
use Rattle.smv_scope.proofs.lookup.+follow.Given as goal

abbrev pub decreases-name_target_within : goal.decreases-name_target_within
decreases-name_target_within l = 4 * l.depth + 1

abbrev pub decreases-instance_within : goal.decreases-instance_within
decreases-instance_within l = 4 * l.depth

abbrev pub decreases-instance_by_name : goal.decreases-instance_by_name
decreases-instance_by_name l = 4 * l.depth + 2

abbrev pub decreases-instance_by_node : goal.decreases-instance_by_node
decreases-instance_by_node l = 4 * l.depth + 3
