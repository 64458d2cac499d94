-- The clauses so far, and where the next one's literals begin.
use Rattle.std.proofs.Common.{◌≡◌, ◌++◌, map, take, length}
use Rattle.clause_core.specs.declared.literal.Lit.{Lit}
use Rattle.bit_clauses.specs.Nodes.{literals_in}
use Rattle.bit_clauses.proofs.conditions.with_conditions.Given as goal

abbrev pub invariant-conditions : goal.invariant-conditions
invariant-conditions l = record {
  start : l.start ≡ length (literals_in (take l.k l.conditions));
  made : (f : Lit → Lit) → l.literals ≡ map f (literals_in l.conditions) → l.made ≡ l.fn.gates ++ map (map f) (take l.k l.conditions);
}
