-- The nodes so far are seen.
use Rattle.std.proofs.Common.{take}
use Rattle.digraph.specs.Reach.{Spread}
use Rattle.digraph.proofs.reach.spread.Given as goal

abbrev pub invariant-loop-v : goal.invariant-loop-v
invariant-loop-v l = Spread (take l.v-index l.vs) l.initial.seen.items l.initial.pending.items l.seen.items l.pending.items
