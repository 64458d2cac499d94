use Rattle.std.proofs.Common.{◌≤◌, ◌-◌, length}
use Rattle.frame_query.proofs.Followed.{IsFollowed}
use Rattle.frame_query.proofs.following.follow_levels.Given as goal

abbrev pub invariant-changes : goal.invariant-changes
invariant-changes l = IsFollowed l.lemmas l.fn.copy l.n l.copy × (l.n ≤ length l.copy)

abbrev pub decreases-changes : goal.decreases-changes
decreases-changes l = length l.copy - l.n
