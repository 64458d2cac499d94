use Rattle.std.proofs.Common.{◌*◌}
use Rattle.clause_core.specs.Assignments.{assignment_of}
use Rattle.book_agenda.specs.Values.{IsBlockedLive}
use Rattle.book_agenda.proofs.values.blocked_live.Given as goal

abbrev pub invariant-parts : goal.invariant-parts
invariant-parts l = IsBlockedLive l.lemmas (l.c * 64) l.level (assignment_of l.values)
