-- The literals so far are moved.
use Rattle.std.proofs.Common.{◌≡◌, ◌+◌, take}
use Rattle.clause_core.specs.Literals.{Within}
use Rattle.bit_clauses.specs.Moving.{moved_clause}
use Rattle.bit_clauses.proofs.moving.moved_lits.Given as goal

abbrev pub invariant-loop-l : goal.invariant-loop-l
invariant-loop-l l = record {
  moved : l.made.items ≡ moved_clause l.from l.by (take l.l-index l.lits);
  within : Within (l.vars + l.by) l.made.items;
}
