use Rattle.std.proofs.Common.{◌≡◌, [], get_or}
use Rattle.cert_core.specs.Certificates.{kept_clauses}
use Rattle.cert_check.proofs.Joining.{KeptMore}
use Rattle.cert_check.proofs.hinting.hint_kept.Given as goal

abbrev pub invariant-loop-k : goal.invariant-loop-k
invariant-loop-k l = record {
  vars : l.checker ≡ l.fn.checker;
  more : KeptMore l.system.all_bits (λ j. kept_clauses l.system l.cert.clauses [] (get_or l.cert.clauses j [])) l.fn.to l.to l.k;
}
