-- The clauses so far are moved.
use Rattle.std.proofs.Common.{◌≡◌, ◌+◌, take, All}
use Rattle.clause_core.specs.Literals.{Within}
use Rattle.bit_clauses.specs.Moving.{moved_clauses}
use Rattle.bit_clauses.proofs.moving.moved.Given as goal

abbrev pub invariant-loop-k : goal.invariant-loop-k
invariant-loop-k l = record {
  moved : l.made ≡ moved_clauses l.from l.by (take l.k l.clauses);
  within : All (Within (l.vars + l.by)) l.made;
}
