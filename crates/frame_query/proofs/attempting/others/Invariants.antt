use Rattle.std.proofs.Common.{take}
use Rattle.frame_query.specs.Trying.{IsOthers}
use Rattle.frame_query.proofs.attempting.others.Given as goal

abbrev pub invariant-literals : goal.invariant-literals
invariant-literals l = IsOthers (take l.m-index l.literals) l.l l.rest.items
