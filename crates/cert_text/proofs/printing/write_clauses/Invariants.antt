use Rattle.std.proofs.Common.{◌≡◌, ◌++◌, drop, string_bytes}
use Rattle.cert_text.specs.Printed.{clauses_text}
use Rattle.cert_text.proofs.printing.write_clauses.Given as goal

abbrev pub invariant-loop-k : goal.invariant-loop-k
invariant-loop-k l = string_bytes l.out ++ clauses_text (drop l.k l.clauses) ≡ string_bytes l.initial.out ++ clauses_text l.clauses
