use Rattle.std.proofs.Common.{take}
use Rattle.frame_query.specs.Lookups.{AreSigned}
use Rattle.frame_query.proofs.lookups.mark_all.Given as goal

abbrev pub invariant-literals : goal.invariant-literals
invariant-literals l = AreSigned l.sign (take l.l-index l.literals) l.marks.items
