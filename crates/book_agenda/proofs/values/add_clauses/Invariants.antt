use Rattle.std.proofs.Common.{◌≡◌}
use Rattle.book_agenda.specs.Tables.{HoldsClauses}
use Rattle.book_agenda.proofs.values.add_clauses.Given as goal

abbrev pub invariant-loop-n : goal.invariant-loop-n
invariant-loop-n l = HoldsClauses l.lemmas l.clauses × (l.clauses.rows ≡ l.n)
