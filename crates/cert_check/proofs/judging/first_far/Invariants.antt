use Rattle.std.proofs.Common.{[], get_or}
use Rattle.clause_core.specs.Literals.{Within}
use Rattle.cert_check.specs.Judgements.{EachBelow}
use Rattle.cert_check.proofs.judging.first_far.Given as goal

abbrev pub invariant-loop-k : goal.invariant-loop-k
invariant-loop-k l = EachBelow (λ j. Within l.state_bits (get_or l.clauses j [])) l.k
