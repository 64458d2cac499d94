-- What the search keeps.
use Rattle.std.proofs.Common.{◌+◌, vec_len}
use Rattle.digraph.specs.Reach.{Reached, unseen}
use Rattle.digraph.proofs.reach.reached_from.Given as goal

abbrev pub invariant-loop-u : goal.invariant-loop-u
invariant-loop-u l = Reached l.g l.a l.seen.items l.pending.items

abbrev pub decreases-loop-u : goal.decreases-loop-u
decreases-loop-u l = unseen l.seen.items + vec_len l.pending
