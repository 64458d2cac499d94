use Rattle.clause_core.specs.Values.{holds}
use Rattle.clause_core.proofs.Seen.{SeenSoFar}
use Rattle.clause_core.proofs.scanning.scan_clause.Given as goal

abbrev pub invariant-loop-x : goal.invariant-loop-x
invariant-loop-x l = SeenSoFar (holds l.values) l.c l.x-index l.found
