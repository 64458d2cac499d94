use Rattle.clause_core.proofs.Satisfied.{alike, unit_satisfies}
use Rattle.clause_core.proofs.satisfied_clauses.satisfied_clauses_may_be_dropped.Goals as goal

pub returns-clause-alike : goal.returns-clause-alike
returns-clause-alike c = alike

pub returns-clause-unit : goal.returns-clause-unit
returns-clause-unit c = unit_satisfies
