use Rattle.std.proofs.Common.{take, ◌≡◌, ◌≤◌, length}
use Rattle.prove_run.specs.Certifying.{clauses_above}
use Rattle.prove_run.proofs.answering.clauses_of.Given as goal

abbrev pub invariant-lemmas : goal.invariant-lemmas
invariant-lemmas l =
    record {
      so_far : l.clauses ≡ clauses_above l.level (take l.n l.lemmas);
      within : l.n ≤ length l.lemmas;
    }
