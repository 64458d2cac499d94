-- The clauses so far.
use Rattle.std.proofs.Common.{◌≡◌, take}
use Rattle.bit_system.proofs.systems.copied_clauses.Given as goal

abbrev pub invariant-loop-k : goal.invariant-loop-k
invariant-loop-k l = l.made ≡ take l.k l.clauses
