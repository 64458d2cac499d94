-- Where all nodes are finished there is no cycle.
use Rattle.std.proofs.Common.{arith}
use Rattle.digraph.proofs.Rounds.{no_cycle}
use Rattle.digraph.proofs.find.find_cycle.Goals as goal

pub returns : goal.returns
returns c = no_cycle c.args.g.now c.loop-s.marks.items c.loop-s.done c.loop-s.s c.loop-s.invariant.at (omega arith) c.loop-s.invariant.begun
