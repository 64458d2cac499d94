use Rattle.std.proofs.Common.{take, All}
use Rattle.clause_core.specs.Literals.{Within}
use Rattle.clause_core.proofs.clause.Clauses.is_within.Given as goal

abbrev pub invariant-loop-k : goal.invariant-loop-k
invariant-loop-k l = All (Within l.vars) (take l.k l.self)
