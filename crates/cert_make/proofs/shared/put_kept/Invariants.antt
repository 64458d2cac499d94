use Rattle.std.proofs.Common.{◌≡◌, ◌++◌, [], get_or}
use Rattle.cert_core.specs.Certificates.{unit_clauses, negated_next}
use Rattle.cert_check.proofs.Joining.{KeptMore}
use Rattle.cert_make.proofs.shared.put_kept.Given as goal

abbrev pub invariant-loop-k : goal.invariant-loop-k
invariant-loop-k l = record {
  vars : l.checker ≡ l.fn.checker;
  more : KeptMore l.fn.checker (λ j. l.given ++ unit_clauses (negated_next l.state_bits (get_or l.clauses j []))) l.fn.to l.to l.k;
}
