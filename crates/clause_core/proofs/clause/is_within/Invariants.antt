use Rattle.std.proofs.Common.{take}
use Rattle.clause_core.specs.Literals.{Within}
use Rattle.clause_core.proofs.clause.is_within.Given as goal

abbrev pub invariant-loop-l : goal.invariant-loop-l
invariant-loop-l l = Within l.vars (take l.l-index l.lits)
