-- Each call goes a dimension further.
use Rattle.std.proofs.Common.{◌+◌, ◌*◌, length}
use Rattle.smv_layout.proofs.elements.+nowhere.Given as goal

abbrev pub decreases-push_nowhere : goal.decreases-push_nowhere
decreases-push_nowhere l = 3 * length l.dimensions.now

abbrev pub decreases-push_outside : goal.decreases-push_outside
decreases-push_outside l = 3 * length l.below.now + 1

abbrev pub decreases-push_beyond : goal.decreases-push_beyond
decreases-push_beyond l = 3 * length l.below.now + 2
