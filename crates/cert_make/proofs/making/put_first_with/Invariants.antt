use Rattle.std.proofs.Common.{◌≡◌, ℕ, List, [], get_or}
use Rattle.cert_core.specs.Certificates.{first_clauses}
use Rattle.cert_check.proofs.Joining.{FirstMore}
use Rattle.cert_make.specs.Paying.{PaysBelow}
use Rattle.cert_make.proofs.making.put_first_with.Given as goal

abbrev pub invariant-loop-k : goal.invariant-loop-k
invariant-loop-k g l = record {
  vars : l.checker ≡ l.fn.checker;
  more : FirstMore l.system.all_bits (λ j. first_clauses l.system (get_or l.clauses j [])) l.fn.to l.to l.k;
  same_vars : l.solver.vars ≡ l.system.all_bits;
  same : l.solver.given ≡ l.system.init;
  pays : (start : List ℕ) → PaysBelow l.system l.clauses 0 [] start (g.Q.Purse.tickets l.fn.purse) →
      PaysBelow l.system l.clauses l.k l.solver.learned start (g.Q.Purse.tickets l.purse);
  kept : g.Q.Purse.kept l.fn.purse l.purse;
  ready : g.Q.Purse.ready l.purse;
  budget : g.Q.Purse.budget l.purse ≡ g.Q.Purse.budget l.fn.purse;
}
