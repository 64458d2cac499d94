use Rattle.std.proofs.Common.{take}
use Rattle.frame_query.specs.Trying.{IsNeeded}
use Rattle.frame_query.proofs.attempting.needed_of.Given as goal

abbrev pub invariant-literals : goal.invariant-literals
invariant-literals l = IsNeeded (take l.l-index l.left) l.part l.met l.needed.items
