use Rattle.std.specs.Prelude.{All}
use Rattle.clause_core.specs.Literals.{Within}
use Rattle.prove_ltl.proofs.following.beginning.Given as goal

abbrev pub invariant-loop-bit : goal.invariant-loop-bit
invariant-loop-bit l = All (Within l.all) l.clauses
