use Rattle.std.proofs.Common.{◌≡◌, ◌+◌, ℕ, List, [], length, get_or}
use Rattle.sat_core.specs.Queries.{IsSound}
use Rattle.cert_check.specs.Judgements.{EachBelow}
use Rattle.cert_make.specs.Making.{KeptFollows}
use Rattle.cert_make.specs.Paying.{PaysBelow}
use Rattle.cert_make.proofs.parts.learn_kept.Given as goal

abbrev pub invariant-loop-k : goal.invariant-loop-k
invariant-loop-k g l = record {
  vars : l.solver.vars ≡ l.fn.solver.vars;
  given : l.solver.given ≡ l.fn.solver.given;
  sound : IsSound l.solver;
  each : EachBelow (λ j. KeptFollows l.system.state_bits l.fn.solver.given l.solver.learned (get_or l.clauses j [])) l.k;
  pays : (start : List ℕ) → PaysBelow l.system l.clauses (length l.clauses) l.fn.solver.learned start (g.Q.Purse.tickets l.fn.purse) →
      PaysBelow l.system l.clauses (length l.clauses + l.k) l.solver.learned start (g.Q.Purse.tickets l.purse);
  kept : g.Q.Purse.kept l.fn.purse l.purse;
  ready : g.Q.Purse.ready l.purse;
  budget : g.Q.Purse.budget l.purse ≡ g.Q.Purse.budget l.fn.purse;
}
