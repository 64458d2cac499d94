use Rattle.std.proofs.Common.{◌+◌}
use Rattle.clause_core.specs.Assignments.{assignment_of}
use Rattle.book_agenda.specs.Values.{IsBlockedLive}
use Rattle.book_agenda.proofs.values.blocked_rows.Given as goal

abbrev pub invariant-rows : goal.invariant-rows
invariant-rows l = IsBlockedLive l.lemmas (l.begin + l.b) l.now (assignment_of l.values)
