use Rattle.std.proofs.Common.{◌≡◌, [], get_or}
use Rattle.cert_core.specs.Certificates.{first_clauses}
use Rattle.cert_check.proofs.Joining.{FirstMore}
use Rattle.cert_check.proofs.hinting.hint_first.Given as goal

abbrev pub invariant-loop-k : goal.invariant-loop-k
invariant-loop-k l = record {
  vars : l.checker ≡ l.fn.checker;
  more : FirstMore l.system.all_bits (λ j. first_clauses l.system (get_or l.cert.clauses j [])) l.fn.to l.to l.k;
}
