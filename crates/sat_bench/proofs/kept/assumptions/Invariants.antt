use Rattle.clause_core.specs.Literals.{Within}
use Rattle.sat_bench.proofs.kept.assumptions.Given as goal

abbrev pub invariant-picked : goal.invariant-picked
invariant-picked l = Within l.fn.vars l.literals.items
