use Rattle.std.proofs.Common.{take}
use Rattle.frame_query.specs.Trying.{IsSplit}
use Rattle.frame_query.proofs.attempting.ordered.Given as goal

abbrev pub invariant-literals : goal.invariant-literals
invariant-literals l = IsSplit (take l.l-index l.clause) l.inside.items l.outside.items
