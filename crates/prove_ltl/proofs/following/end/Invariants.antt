use Rattle.clause_core.specs.Literals.{Within}
use Rattle.prove_ltl.proofs.following.end.Given as goal

abbrev pub invariant-loop-bit : goal.invariant-loop-bit
invariant-loop-bit l = Within l.bits l.literals.items
