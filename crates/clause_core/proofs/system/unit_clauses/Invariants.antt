use Rattle.std.proofs.Common.{◌≡◌, take}
use Rattle.clause_core.specs.Literals.{units}
use Rattle.clause_core.proofs.system.unit_clauses.Given as goal

abbrev pub invariant-loop-l : goal.invariant-loop-l
invariant-loop-l l = l.clauses ≡ units (take l.l-index l.lits)
